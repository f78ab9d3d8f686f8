-- `lookback::collides_from_both` meets its contract: where no packet may collide, none does. Assumes nothing.
use mathlib.Core.Path.{sym, ◌∙◌}
use Rattle.states.proofs.Colliding.{told, none_told}
use Rattle.lookback.proofs.collides_from_both.Goals as goal

pub returns-then-exempt : goal.returns-then-exempt
returns-then-exempt c = none_told c.args.id _ _ (sym c.exempt.ensures ∙ c.if-exempt.true)

pub returns-then-met : goal.returns-then-met
returns-then-met c = c.collides_slowly.ensures

pub returns : goal.returns
returns c =
    told c.args.id c.args.dir _ _
    (sym c.exempt.ensures ∙ c.if-exempt.false) (c.met.ensures c.if-met.false)
