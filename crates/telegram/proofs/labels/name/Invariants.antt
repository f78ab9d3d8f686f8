-- Each field that the rows lead to has the next value of the telegram in hand, and the mark is its last; the invariant `Naming` says that
-- storing the numbers of the fields left from i on makes the run what is promised. Assumes
-- nothing.
use Rattle.states.proofs.Labelling.{Naming}
use Rattle.telegram.proofs.labels.name.Given as goal

abbrev pub invariant-loop-i : goal.invariant-loop-i
invariant-loop-i l = Naming l.values l.initial.fields l.fields l.t l.i
