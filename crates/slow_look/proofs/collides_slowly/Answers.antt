-- `slow_look::collides_slowly` meets its contract: no packet that was passed collides with this one, and those from the cursor on are
-- left. The measure is how many bits are left. Assumes nothing.
use mathlib.Core.Path.{sym, ◌∙◌}
use Rattle.states.proofs.Colliding.{told, none_told}
use Rattle.states.proofs.Hopping.{hopping_first, hops_end, hops_met, hops_past, hops_on, hops_less}
use Rattle.slow_look.proofs.collides_slowly.Goals as goal

pub returns-then-exempt : goal.returns-then-exempt
returns-then-exempt c = none_told c.args.id _ _ (sym c.exempt.ensures ∙ c.if-exempt.true)

pub loop-a-init : goal.loop-a-init
loop-a-init c = hopping_first _ _ _ _

pub returns-in_default : goal.returns-in_default
returns-in_default c = told c.args.id c.args.dir _ _ (sym c.exempt.ensures ∙ c.if-exempt.false) (hops_end c.loop-a.invariant c.take.ensures c.in_default.is)

pub returns-then-meets : goal.returns-then-meets
returns-then-meets c =
    told c.args.id c.args.dir _ _ (sym c.exempt.ensures ∙ c.if-exempt.false)
    (hops_met c.loop-a.invariant c.take.ensures c.in-Some.is (sym c.meets.ensures ∙ c.if-meets.true))

pub returns-in_default-skip : goal.returns-in_default-skip
returns-in_default-skip c =
    told c.args.id c.args.dir _ _ (sym c.exempt.ensures ∙ c.if-exempt.false)
    (hops_past c.loop-a.invariant c.take.ensures c.in-Some.is (sym c.meets.ensures ∙ c.if-meets.false)
    (sym (rw c.behind_head.ensures at c.skip.ensures) ∙ c.in_default-skip.is))

pub loop-a-smaller : goal.loop-a-smaller
loop-a-smaller c =
    hops_less c.loop-a.invariant c.take.ensures c.in-Some.is (sym c.meets.ensures ∙ c.if-meets.false)
    (sym (rw c.behind_head.ensures at c.skip.ensures) ∙ c.in-Some-skip.is)

pub loop-a-preserved : goal.loop-a-preserved
loop-a-preserved c =
    hops_on c.loop-a.invariant c.take.ensures c.in-Some.is (sym c.meets.ensures ∙ c.if-meets.false)
    (sym (rw c.behind_head.ensures at c.skip.ensures) ∙ c.in-Some-skip.is)
