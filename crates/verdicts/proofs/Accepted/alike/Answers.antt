-- `verdicts::Accepted::alike` meets its contract: those that were passed belong to the first. Assumes nothing.
use mathlib.Core.Path.{sym, ◌∙◌}
use Rattle.group_laws.proofs.Belonging.{comparing_first, comparing_on, comparing_fails, comparing_end}
use Rattle.verdicts.proofs.Lines.{accepted}
use Rattle.verdicts.proofs.Accepted.alike.Goals as goal

pub loop-n-init : goal.loop-n-init
loop-n-init c = comparing_first (accepted c.args.self.now) c.requires

pub returns-then-not-belongs : goal.returns-then-not-belongs
returns-then-not-belongs c = comparing_fails (accepted c.args.self.now) c.requires c.loop-n.invariant c.loop-n-test.true (rw (← c.identity-whose.ensures) (sym c.belongs.ensures ∙ c.if-not-belongs.true))

pub loop-n-preserved : goal.loop-n-preserved
loop-n-preserved c = comparing_on (accepted c.args.self.now) c.requires c.loop-n.invariant c.loop-n-test.true (rw (← c.identity-whose.ensures) (sym c.belongs.ensures ∙ c.if-not-belongs.false)) c.behind-start.result c.behind-start.ensures

pub returns : goal.returns
returns c = comparing_end (accepted c.args.self.now) c.requires c.loop-n.invariant c.loop-n-test.false
