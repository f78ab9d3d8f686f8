-- `spell::places` meets its contract. The loop's invariant, `Putting`: the places of n, with those that stand in d from i on behind
-- them, are those of v. The measure is how many are left. Assumes nothing.
use mathlib.Core.Path.{sym, ◌∙◌}
use native.Mathlib.Omega.{arith}
use Rattle.pieces.proofs.Sixteens.{putting_first, putting_on, put_all}
use Rattle.spell.proofs.places.Goals as goal

pub loop-i-init : goal.loop-i-init
loop-i-init c = putting_first _ _ c.requires

pub loop-i-preserved : goal.loop-i-preserved
loop-i-preserved c = rw c.letter.ensures (putting_on c.loop-i.invariant (omega arith))

pub shape_of-d : goal.shape_of-d
shape_of-d c = c.loop-i.invariant.size ∙ sym c.requires

pub returns : goal.returns
returns c = put_all c.loop-i.invariant (omega arith)
