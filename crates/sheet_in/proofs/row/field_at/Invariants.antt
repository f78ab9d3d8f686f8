-- `sheet_in::row::field_at` meets its contract. The loop's invariant: no field before k has its label there. Assumes nothing.
use lib.ListN.{drop}
use Rattle.sheet.proofs.Fronts.{Sought}
use Rattle.sheet_in.proofs.row.field_at.Given as goal

abbrev pub invariant-loop-k : goal.invariant-loop-k
invariant-loop-k l = Sought (drop l.at l.text) l.k
