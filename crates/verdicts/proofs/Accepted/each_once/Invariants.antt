-- `verdicts::Accepted::each_once` meets its contract: each N_PIG that was passed stands once. Assumes nothing.
use mathlib.Core.Path.{◌≡◌}
use lib.ListN.{length}
use Rattle.group.specs.Groups.{once}
use Rattle.group.specs.Walks.{telegrams_of}
use Rattle.verdicts.proofs.Accepted.each_once.Given as goal

abbrev pub invariant-loop-k : goal.invariant-loop-k
invariant-loop-k l =
    let t = l.self.telegrams in
    once (length t.ns.now) (telegrams_of t.bytes.now t.ns.now) ≡ once l.k (telegrams_of t.bytes.now t.ns.now)
