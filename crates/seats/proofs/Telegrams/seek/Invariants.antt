-- `seats::Telegrams::seek` meets its contract: none that was passed has it. Assumes nothing.
use Rattle.seats.proofs.Along.{Looking}
use Rattle.seats.proofs.Telegrams.seek.Given as goal

abbrev pub invariant-loop-n : goal.invariant-loop-n
invariant-loop-n l = Looking l.self.bytes.now l.self.ns.now l.k l.n-index l.start
