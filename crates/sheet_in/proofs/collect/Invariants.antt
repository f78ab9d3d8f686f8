-- `sheet_in::collect` meets its contract. The loop's invariant, `Gathered`: the rows of the text are those that are kept and then those
-- from at on. The measure is how many rows may follow. Assumes nothing.
use Prim.Native.Nat.{◌-◌}
use Rattle.sheet.proofs.Gathering.{Gathered}
use Rattle.sheet_in.proofs.collect.Given as goal

abbrev pub invariant-loop-at : goal.invariant-loop-at
invariant-loop-at l = Gathered l.text l.at l.n l.fields l.values

abbrev pub decreases-loop-at : goal.decreases-loop-at
decreases-loop-at l = 830 - l.n
