-- `spell::digits` meets its contract. The loop's invariant, `Putting`: the digits of n, with those that stand in d from i on behind
-- them, are the digits of v. The measure is the room that is left. Assumes nothing.
use Rattle.pieces.proofs.Loops.{Putting}
use Rattle.spell.proofs.digits.Given as goal

abbrev pub invariant-loop-n : goal.invariant-loop-n
invariant-loop-n l = Putting l.v l.d l.n l.i

abbrev pub decreases-loop-n : goal.decreases-loop-n
decreases-loop-n l = l.i
