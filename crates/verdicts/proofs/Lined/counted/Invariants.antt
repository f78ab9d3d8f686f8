-- `verdicts::Lined::counted` meets its contract: the counters that were passed match, and those to come must match the last other than 255. Assumes nothing.
use Rattle.group_laws.proofs.Lining.{Counting}
use Rattle.verdicts.proofs.Lined.counted.Given as goal

abbrev pub invariant-loop-k : goal.invariant-loop-k
invariant-loop-k l = Counting l.self.telegrams.bytes.now l.self.telegrams.ns.now l.k l.seen
