-- `spell::places` meets its contract. The loop's invariant, `Putting`: the places of n, with those that stand in d from i on behind
-- them, are those of v. The measure is how many are left. Assumes nothing.
use Rattle.pieces.proofs.Sixteens.{Putting}
use Rattle.spell.proofs.places.Given as goal

abbrev pub invariant-loop-i : goal.invariant-loop-i
invariant-loop-i l = Putting l.v l.d l.n l.i
