-- `metre_lists::told` meets its contract. Assumes nothing.
use mathlib.Core.Path.{refl}
use Rattle.metre_lists.proofs.told.Goals as goal

pub returns-then-puts : goal.returns-then-puts
returns-then-puts c = (rw c.if-puts.true refl, rw c.if-puts.true c.put.ensures)

pub returns : goal.returns
returns c = (rw c.if-puts.false c.whole.ensures, rw c.if-puts.false refl)
