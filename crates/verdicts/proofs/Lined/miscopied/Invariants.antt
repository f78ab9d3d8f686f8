-- `verdicts::Lined::miscopied` meets its contract: what the balises that were passed name is right. Assumes nothing.
use Rattle.group_laws.proofs.Copying.{Naming}
use Rattle.verdicts.proofs.Lined.miscopied.Given as goal

abbrev pub invariant-loop-k : goal.invariant-loop-k
invariant-loop-k l = Naming l.self.telegrams.bytes.now l.self.telegrams.ns.now l.k
