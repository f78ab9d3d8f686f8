-- `telegram::writer::measure` meets its contract. The loop's invariant, `Measures`: what the definition answers from the start is what it
-- answers from here, after the entries so far. Assumes nothing.
use Rattle.format.specs.Table.{words}
use Rattle.states.proofs.Measuring.{Measures}
use Rattle.telegram.proofs.writer.measure.Given as goal

abbrev pub invariant-loop-i : goal.invariant-loop-i
invariant-loop-i l = Measures l.values words l.st l.i
