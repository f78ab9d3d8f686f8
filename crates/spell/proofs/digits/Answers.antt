-- `spell::digits` meets its contract. The loop's invariant, `Putting`: the digits of n, with those that stand in d from i on behind
-- them, are the digits of v. The measure is the room that is left. Assumes nothing.
use mathlib.Core.Path.{sym, ◌∙◌}
use native.Mathlib.Omega.{arith}
use lib.ListN.{length-set}
use Rattle.pieces.proofs.Loops.{putting_first, putting_on, put_first}
use Rattle.spell.proofs.digits.Goals as goal

pub loop-n-init : goal.loop-n-init
loop-n-init c = putting_first _ _ c.requires (omega arith)

pub loop-n-preserved : goal.loop-n-preserved
loop-n-preserved c = putting_on c.loop-n.invariant (omega arith)

pub shape_of-d : goal.shape_of-d
shape_of-d c = simp length-set (c.loop-n.invariant.size ∙ sym c.requires)

pub returns : goal.returns
returns c = (omega (arith, c.loop-n.invariant.within), simp length-set c.loop-n.invariant.size, put_first c.loop-n.invariant (omega arith))
