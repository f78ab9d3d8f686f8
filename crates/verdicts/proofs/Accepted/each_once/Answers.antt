-- `verdicts::Accepted::each_once` meets its contract: each N_PIG that was passed stands once. Assumes nothing.
use mathlib.Core.Path.{◌∙◌}
use lib.ListN.{length}
use Rattle.group.specs.Walks.{telegrams_of}
use Rattle.group_laws.proofs.Seeking.{tallied_is}
use Rattle.group_laws.proofs.Lining.{once_on, once_fails}
use Rattle.verdicts.proofs.Lines.{accepted}
use native.Mathlib.Omega.{arith}
use Rattle.verdicts.proofs.Accepted.each_once.Goals as goal

pub returns-then-tally-ne1 : goal.returns-then-tally-ne1
returns-then-tally-ne1 c = let t = c.args.self.now.telegrams in
    once_fails (length t.ns.now) c.loop-k.k c.tally.result (telegrams_of t.bytes.now t.ns.now) (omega arith) c.loop-k.invariant (c.tally.ensures ∙ tallied_is _ _ _ (accepted c.args.self.now)) (λ e. omega (arith, c.if-tally-ne1.true))

pub loop-k-preserved : goal.loop-k-preserved
loop-k-preserved c = let t = c.args.self.now.telegrams in
    once_on (length t.ns.now) c.loop-k.k c.tally.result (telegrams_of t.bytes.now t.ns.now) (omega arith) c.loop-k.invariant (c.tally.ensures ∙ tallied_is _ _ _ (accepted c.args.self.now)) (omega (arith, c.if-tally-ne1.false))
