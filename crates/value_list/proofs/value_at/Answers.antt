-- `value_list::value_at` meets its contract: one law for each answer. Assumes nothing.
use Rattle.value_list.proofs.OneValue.{value_past, value_spaceless, value_numberless, value_digitless, value_whole}
use Rattle.value_list.proofs.value_at.Goals as goal

pub returns-then-text-at : goal.returns-then-text-at
returns-then-text-at c = value_past c.args.text.now c.args.at c.if-text-at.true

pub returns-then-text-at-ne32 : goal.returns-then-text-at-ne32
returns-then-text-at-ne32 c = value_spaceless c.args.text.now c.args.at c.if-text-at.false c.if-text-at-ne32.true

pub returns-in_err-v : goal.returns-in_err-v
returns-in_err-v c = rw c.from_residual.ensures (value_numberless c.args.text.now c.args.at c.if-text-at.false c.if-text-at-ne32.false c.in_err-v.ensures)

pub returns-then-end-at : goal.returns-then-end-at
returns-then-end-at c = value_digitless c.args.text.now c.args.at c.if-text-at.false c.if-text-at-ne32.false _ _ (c.in_ok-v.ensures) c.if-end-at.true

pub returns : goal.returns
returns c = value_whole c.args.text.now c.args.at c.if-text-at.false c.if-text-at-ne32.false _ _ (c.in_ok-v.ensures) c.if-end-at.false
