-- Each field that the rows lead to is sent with the next value of the telegram in hand, and the mark is its last; the invariant `Laying` says
-- that storing the bits left from `at` on makes the bits what is promised. Of the last byte,
-- cleared before the first field, the bits behind the mark are 0. Assumes nothing.
use Rattle.states.proofs.Storing.{Laying}
use Rattle.telegram.proofs.writer.store.Given as goal

abbrev pub invariant-loop-v : goal.invariant-loop-v
invariant-loop-v l = Laying l.values l.n l.initial.out l.out l.t l.at l.v-index
