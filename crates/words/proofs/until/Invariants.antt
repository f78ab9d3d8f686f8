-- `words::until` meets its contract. The loop's invariant: the place that is looked for is as far behind i as from there on it is. The measure is
-- how much of the text is left. Assumes nothing.
use mathlib.Core.Path.{◌≡◌}
use Prim.Native.Nat.{◌+◌, ◌-◌}
use lib.ListN.{length, drop}
use Rattle.words.specs.Words.{up_to}
use Rattle.words.proofs.until.Given as goal

abbrev pub invariant-loop-i : goal.invariant-loop-i
invariant-loop-i l = l.at + up_to l.c (drop l.at l.text) ≡ l.i + up_to l.c (drop l.i l.text)

abbrev pub decreases-loop-i : goal.decreases-loop-i
decreases-loop-i l = length l.text - l.i
