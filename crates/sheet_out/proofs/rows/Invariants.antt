-- `sheet_out::rows` meets its contract. The loop's invariant, `Putting`: the rows so far stand behind any text so far. Assumes nothing.
use lib.ListN.{length}
use Rattle.sheet.proofs.Columns.{Putting}
use Rattle.sheet_out.proofs.rows.Given as goal

abbrev pub invariant-loop-k : goal.invariant-loop-k
invariant-loop-k l = Putting l.fields l.values l.initial.text l.start l.at l.text (length l.yielded)
