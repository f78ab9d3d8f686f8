-- `telegram::earlier::collides_in_values` meets its contract: no packet among the values before the i-th collides with this one, and those from there
-- on are left. Assumes nothing.
use mathlib.Core.Path.{sym, ◌∙◌}
use native.Mathlib.Omega.{arith}
use Rattle.states.proofs.Colliding.{told, none_told}
use Rattle.states.proofs.Walking.{walking_first, walks_none, walks_end, walks_met, walks_over, walks_on}
use Rattle.telegram.proofs.earlier.collides_in_values.Goals as goal

pub returns-then-exempt : goal.returns-then-exempt
returns-then-exempt c = none_told c.args.id _ _ (sym c.exempt.ensures ∙ c.if-exempt.true)

pub returns-then-n-eq0 : goal.returns-then-n-eq0
returns-then-n-eq0 c = told c.args.id c.args.dir _ _ (sym c.exempt.ensures ∙ c.if-exempt.false) (walks_none _ _ _ _ c.if-n-eq0.true)

pub loop-i-init : goal.loop-i-init
loop-i-init c = (rw c.at-t.ensures (walking_first _ _ _ _), omega arith)

pub bounds-values-i : goal.bounds-values-i
bounds-values-i c = omega (arith, c.loop-i.invariant.1, c.loop-i-test.true, c.requires)

pub bounds-values-i-in-loop-i : goal.bounds-values-i-in-loop-i
bounds-values-i-in-loop-i c = omega (arith, c.loop-i.invariant.1, c.loop-i-test.true, c.requires)

pub packet_meets-requires : goal.packet_meets-requires
packet_meets-requires c = c.loop-i.invariant.0.tidy

pub returns-then-packet_meets : goal.returns-then-packet_meets
returns-then-packet_meets c =
    told c.args.id c.args.dir _ _ (sym c.exempt.ensures ∙ c.if-exempt.false)
    (walks_met c.loop-i.invariant.0 c.requires (omega (arith, c.loop-i.invariant.1, c.loop-i-test.true)) (sym c.packet_meets.ensures ∙ c.if-packet_meets.true))

pub advance-requires : goal.advance-requires
advance-requires c = c.loop-i.invariant.0.tidy

pub returns-in_default : goal.returns-in_default
returns-in_default c =
    told c.args.id c.args.dir _ _ (sym c.exempt.ensures ∙ c.if-exempt.false)
    (walks_over c.loop-i.invariant.0 c.requires (omega (arith, c.loop-i.invariant.1, c.loop-i-test.true)) (sym c.packet_meets.ensures ∙ c.if-packet_meets.false) c.advance.ensures c.in_default.is)

pub loop-i-preserved : goal.loop-i-preserved
loop-i-preserved c = (
  walks_on c.loop-i.invariant.0 c.requires (omega (arith, c.loop-i.invariant.1, c.loop-i-test.true)) (sym c.packet_meets.ensures ∙ c.if-packet_meets.false) c.advance.ensures c.in-Some.is,
  c.loop-i.invariant.1,
)

pub returns : goal.returns
returns c =
    told c.args.id c.args.dir _ _ (sym c.exempt.ensures ∙ c.if-exempt.false) (walks_end c.loop-i.invariant.0 c.requires (omega (arith, c.loop-i.invariant.1, c.loop-i-test.false)))
