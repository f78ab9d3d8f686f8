-- `group_words::measured` meets its contract: so many telegrams and bytes were counted. The measure is how many characters are left. Assumes nothing.
use Prim.Native.Nat.{◌+◌, ◌-◌}
use lib.ListN.{length}
use Rattle.group_words.proofs.Counts.{Measuring}
use Rattle.group_words.proofs.measured.Given as goal

abbrev pub invariant-loop-at : goal.invariant-loop-at
invariant-loop-at l = Measuring l.line l.at l.count l.total

abbrev pub decreases-loop-at : goal.decreases-loop-at
decreases-loop-at l = length l.line + 1 - l.at
