-- Each field that the rows lead to holds the next value of the telegram in hand, and the mark is its last; the invariant `Going` says that
-- storing the values left from i on makes the run what is promised. Assumes nothing.
use Rattle.states.proofs.Filling.{Going}
use Rattle.telegram.proofs.reader.fill.Given as goal

abbrev pub invariant-loop-value : goal.invariant-loop-value
invariant-loop-value l = Going l.s l.n l.initial.out l.out l.t l.c.at l.value-index
