-- `seats::Telegrams::tally` meets its contract: those that were passed are counted. Assumes nothing.
use Rattle.seats.proofs.Along.{Tallying}
use Rattle.seats.proofs.Telegrams.tally.Given as goal

abbrev pub invariant-loop-n : goal.invariant-loop-n
invariant-loop-n l = Tallying l.self.bytes.now l.self.ns.now l.k l.n-index l.start l.count
