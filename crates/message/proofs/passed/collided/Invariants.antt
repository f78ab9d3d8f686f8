-- `message::passed::collided` meets its contract: no packet of the balises that were passed collides, the table has them all, and counts how many each has. Assumes nothing.
use Rattle.message.proofs.Colliding.{Gathering}
use Rattle.message.proofs.passed.collided.Given as goal

abbrev pub invariant-loop-k : goal.invariant-loop-k
invariant-loop-k l = Gathering l.t.telegrams.bytes.now l.t.telegrams.ns.now l.k l.before l.seen l.counts
