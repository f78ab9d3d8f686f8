-- `verdicts::Accepted::alike` meets its contract: those that were passed belong to the first. Assumes nothing.
use Rattle.group_laws.proofs.Belonging.{Comparing}
use Rattle.verdicts.proofs.Accepted.alike.Given as goal

abbrev pub invariant-loop-n : goal.invariant-loop-n
invariant-loop-n l = Comparing l.bytes l.ns l.n-index l.start
