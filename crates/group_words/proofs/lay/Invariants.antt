-- `group_words::lay` meets its contract: the first telegrams were put. The measure is how many characters are left. Assumes nothing.
use Prim.Native.Nat.{◌+◌, ◌-◌}
use lib.ListN.{length}
use Rattle.group_words.proofs.Puts.{Laying}
use Rattle.group_words.proofs.lay.Given as goal

abbrev pub invariant-loop-at : goal.invariant-loop-at
invariant-loop-at l = Laying l.line l.initial.bytes l.initial.ns l.at l.used l.i l.bytes l.ns

abbrev pub decreases-loop-at : goal.decreases-loop-at
decreases-loop-at l = length l.line + 1 - l.at
