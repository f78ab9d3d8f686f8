-- `telegram::driver::drift` meets its contract. The invariant is `Drifting`; the measure is how many bits are left. Assumes nothing.
use mathlib.Core.Path.{sym, ◌∙◌}
use Prim.Native.Nat.{◌+◌}
use native.Mathlib.Omega.{arith}
use Rattle.format.proofs.Rows.{jump_in}
use Rattle.states.proofs.Drifting.{unread_so, after_in, drifting_first, more, nearer, drifts_next, drifts_again}
use Rattle.telegram.proofs.driver.drift.Goals as goal

pub loop-k-init : goal.loop-k-init
loop-k-init c = drifting_first c.requires

pub act-requires : goal.act-requires
act-requires c = c.loop-k.invariant.tidy.inside

pub rest-requires : goal.rest-requires
rest-requires c = c.loop-k.invariant.tidy.inside

pub width-requires : goal.width-requires
width-requires c = c.loop-k.invariant.tidy.inside

pub overflow_add-k : goal.overflow_add-k
overflow_add-k c = omega (arith, c.loop-k.invariant.tidy.inside)

pub act-requires-in-loop-k : goal.act-requires-in-loop-k
act-requires-in-loop-k c =
    let u = unread_so c.loop-k.t.node _ _ c.loop-k.invariant.tidy.inside c.act.ensures c.rest.ensures (sym c.unread.ensures ∙ c.if-not-unread.false) in
    after_in c.loop-k.invariant u.0

-- the next row

pub overflow_add-t : goal.overflow_add-t
overflow_add-t c = omega (arith, c.loop-k.invariant.tidy.inside)

pub overflow_add-fields : goal.overflow_add-fields
overflow_add-fields c = omega (arith, more c.loop-k.invariant c.width.ensures c.skip.ensures c.in-Some.is, c.ranges.n)

pub loop-k-smaller-then-act-ne-END : goal.loop-k-smaller-then-act-ne-END
loop-k-smaller-then-act-ne-END c = nearer c.loop-k.invariant c.width.ensures c.skip.ensures c.in-Some.is

pub loop-k-preserved-then-act-ne-END : goal.loop-k-preserved-then-act-ne-END
loop-k-preserved-then-act-ne-END c =
    let u = unread_so c.loop-k.t.node _ _ c.loop-k.invariant.tidy.inside c.act.ensures c.rest.ensures (sym c.unread.ensures ∙ c.if-not-unread.false) in
    drifts_next c.loop-k.invariant c.width.ensures c.skip.ensures c.in-Some.is u.0 u.1 (λ e. c.if-act-ne-END.true (c.act-in-loop-k.ensures ∙ e))

-- the group again

pub overflow_add-k-in-loop-k : goal.overflow_add-k-in-loop-k
overflow_add-k-in-loop-k c = omega (arith, c.loop-k.invariant.tidy.inside)

pub back-u-requires : goal.back-u-requires
back-u-requires c =
    let u = unread_so c.loop-k.t.node _ _ c.loop-k.invariant.tidy.inside c.act.ensures c.rest.ensures (sym c.unread.ensures ∙ c.if-not-unread.false) in
    (after_in c.loop-k.invariant u.0, sym c.act-in-loop-k.ensures ∙ c.if-act-ne-END.false)

pub overflow_add-t-in-loop-k : goal.overflow_add-t-in-loop-k
overflow_add-t-in-loop-k c =
    let u = unread_so c.loop-k.t.node _ _ c.loop-k.invariant.tidy.inside c.act.ensures c.rest.ensures (sym c.unread.ensures ∙ c.if-not-unread.false) in
    let j = jump_in (c.loop-k.t.node + 1) (after_in c.loop-k.invariant u.0) in
    omega (arith, c.back-u.ensures)

pub overflow_sub-t : goal.overflow_sub-t
overflow_sub-t c = let l = c.if-t-eq0.false in omega arith

pub overflow_add-fields-in-loop-k : goal.overflow_add-fields-in-loop-k
overflow_add-fields-in-loop-k c = omega (arith, more c.loop-k.invariant c.width.ensures c.skip.ensures c.in-Some.is, c.ranges.n)

pub loop-k-smaller : goal.loop-k-smaller
loop-k-smaller c = nearer c.loop-k.invariant c.width.ensures c.skip.ensures c.in-Some.is

pub loop-k-preserved : goal.loop-k-preserved
loop-k-preserved c =
    let u = unread_so c.loop-k.t.node _ _ c.loop-k.invariant.tidy.inside c.act.ensures c.rest.ensures (sym c.unread.ensures ∙ c.if-not-unread.false) in
    rw c.back-u.ensures
    (drifts_again c.loop-k.invariant c.width.ensures c.skip.ensures c.in-Some.is u.0 u.1 (sym c.act-in-loop-k.ensures ∙ c.if-act-ne-END.false) (λ e. c.if-u-eq0.false (c.back-u.ensures ∙ e)) c.if-t-eq0.false)

-- where it stops

pub returns-then-not-unread : goal.returns-then-not-unread
returns-then-not-unread c = c.loop-k.invariant.drifted

pub returns-in_default : goal.returns-in_default
returns-in_default c = c.loop-k.invariant.drifted

pub returns-then-u-eq0 : goal.returns-then-u-eq0
returns-then-u-eq0 c = c.loop-k.invariant.drifted

pub returns-then-t-eq0 : goal.returns-then-t-eq0
returns-then-t-eq0 c = c.loop-k.invariant.drifted
