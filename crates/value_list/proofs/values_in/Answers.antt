-- `value_list::values_in` meets its contract: what was counted is stored, and what was refused is not. Assumes nothing.
use Rattle.value_list.proofs.Taking.{taken_all, taken_none}
use Rattle.value_list.proofs.values_in.Goals as goal

pub returns : goal.returns
returns c = taken_all c.args.text.now c.args.values.now _ _ (c.in_ok-n.ensures) c.store.ensures

pub returns-in_err-n : goal.returns-in_err-n
returns-in_err-n c = rw c.from_residual.ensures (taken_none c.args.text.now c.args.values.now c.in_err-n.ensures)
