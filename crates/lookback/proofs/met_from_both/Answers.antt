-- `lookback::met_from_both` meets its contract: no packet before the bit p collides with this one, and if the hops come to mid, none before the bit q does.
-- The measure is how many bits are left to mid. Assumes nothing.
use mathlib.Core.Path.{◌≡◌, sym, subst, ◌∙◌}
use native.Mathlib.Omega.{arith}
use Rattle.states.proofs.Hopping.{Hopping, hopping_first}
use Rattle.lookback.proofs.Looking.{unlike, looks_on}
use Rattle.lookback.proofs.Window.{near_is}
use Rattle.lookback.proofs.met_from_both.Goals as goal

pub loop-p-init : goal.loop-p-init
loop-p-init c = (hopping_first _ _ _ _, λ h. h)

pub returns-then-last-q : goal.returns-then-last-q
returns-then-last-q c = unlike

pub returns-then-like : goal.returns-then-like
returns-then-like c = unlike

pub returns-then-like-2 : goal.returns-then-like-2
returns-then-like-2 c = unlike

pub returns-then-a-lt-OUTER_HEAD : goal.returns-then-a-lt-OUTER_HEAD
returns-then-a-lt-OUTER_HEAD c = unlike

pub returns-then-b-lt-OUTER_HEAD : goal.returns-then-b-lt-OUTER_HEAD
returns-then-b-lt-OUTER_HEAD c = unlike

pub overflow_add-p : goal.overflow_add-p
overflow_add-p c = omega (arith, c.long-a.ensures)

pub overflow_add-q : goal.overflow_add-q
overflow_add-q c = omega (arith, c.long-b.ensures)

pub loop-p-preserved : goal.loop-p-preserved
loop-p-preserved c =
    let at = c in
    let i = at.loop-p.invariant in
    let v = near_is _ at.loop-p.p (omega arith) c.near-v.ensures in
    let w = near_is _ at.loop-p.q (omega arith) c.near-w.ensures in
    let first = sym c.like.ensures ∙ c.if-like.false in
    let second = sym c.like-in-loop-p.ensures ∙ c.if-like-2.false in
    (looks_on i.0 v (omega arith) (omega arith) first c.long-a.ensures (omega arith), λ h. looks_on (i.1 h) w (omega arith) (omega arith) second c.long-b.ensures (omega arith))

pub returns-then-p-mid : goal.returns-then-p-mid
returns-then-p-mid c = unlike

pub returns : goal.returns
returns c =
    let at = c in
    let mid = at.args.mid in
    let came : at.loop-p.p ≡ mid = omega arith in
    let i = at.loop-p.invariant in
    c.met_from.ensures (i.1 (subst (Hopping _ _ _ _) came i.0))
