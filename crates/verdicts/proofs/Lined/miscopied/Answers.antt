-- `verdicts::Lined::miscopied` meets its contract: what the balises that were passed name is right. Assumes nothing.
use mathlib.Core.Path.{sym, ◌∙◌}
use Rattle.group_laws.proofs.Copying.{naming_first, naming_on, naming_wrong, naming_end}
use Rattle.verdicts.proofs.Lines.{lineup}
use Rattle.verdicts.proofs.Lined.miscopied.Goals as goal

pub loop-k-init : goal.loop-k-init
loop-k-init c = naming_first (lineup c.args.self.now)

pub returns-then-not-names_right : goal.returns-then-not-names_right
returns-then-not-names_right c = naming_wrong (lineup c.args.self.now) c.loop-k.invariant c.loop-k-test.true (sym c.names_right.ensures ∙ c.if-not-names_right.true)

pub loop-k-preserved : goal.loop-k-preserved
loop-k-preserved c = naming_on (lineup c.args.self.now) c.loop-k.invariant c.loop-k-test.true (sym c.names_right.ensures ∙ c.if-not-names_right.false)

pub returns : goal.returns
returns c = naming_end (lineup c.args.self.now) c.loop-k.invariant c.loop-k-test.false
