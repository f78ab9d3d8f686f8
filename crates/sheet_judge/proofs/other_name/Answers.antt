-- `sheet_judge::other_name` meets its contract. Assumes nothing.
use native.Mathlib.Omega.{arith}
use Rattle.sheet.proofs.Columns.{some_unlike, none_unlike, unlike_within}
use Rattle.sheet_judge.proofs.other_name.Goals as goal

pub overflow_add-result : goal.overflow_add-result
overflow_add-result c = omega (arith, unlike_within c.args.fields.now c.args.due.now c.in_ok-i.i c.in_ok-i.ensures)

pub returns-in_err-i : goal.returns-in_err-i
returns-in_err-i c = rw c.from_residual.ensures (none_unlike c.args.fields.now c.args.due.now c.in_err-i.ensures)

pub returns : goal.returns
returns c = some_unlike c.args.fields.now c.args.due.now c.in_ok-i.i c.in_ok-i.ensures
