-- `telegram::reader::walk` meets its contract. The loop's invariant, `Scans`: what the definition answers from the start is what it answers
-- from here, after the entries so far. The measure is how many bits are left. Assumes nothing.
use Prim.Native.Nat.{◌-◌}
use Rattle.format.specs.Table.{words}
use Rattle.states.proofs.Scanning.{Scans}
use Rattle.telegram.proofs.reader.walk.Given as goal

abbrev pub invariant-loop-after : goal.invariant-loop-after
invariant-loop-after l = Scans l.s l.n words l.st (record { at = l.st.at }) l.count

abbrev pub decreases-loop-after : goal.decreases-loop-after
decreases-loop-after l = l.n - l.st.at
