-- `bits::Cursor::skip` meets its contract. Assumes nothing.
use mathlib.Core.Path.{sym}
use native.Mathlib.Omega.{arith}
use Rattle.bits.proofs.Fields.{skip_whole, skip_past}
use Rattle.bits.proofs.Cursor.skip.Goals as goal

pub returns-then-n-at : goal.returns-then-n-at
returns-then-n-at c = sym (skip_past _ _ _ (omega (arith, c.if-n-at.true)))

pub returns-then-n-at-2 : goal.returns-then-n-at-2
returns-then-n-at-2 c = sym (skip_past _ _ _ (omega (arith, c.if-n-at-2.true, c.if-n-at.false)))

pub returns : goal.returns
returns c = sym (skip_whole _ _ _ (omega arith))
