-- `telegram::swift::sweep` meets its contract: from packet's edge to packet's edge. The measure is how many bits are left. Assumes nothing.
use mathlib.Core.Bool.{true}
use mathlib.Core.Logic.{inl, inr}
use mathlib.Core.Path.{◌≡◌, refl, sym, ◌∙◌}
use Prim.Native.Nat.{ℕ, ◌+◌, ◌≤◌, ◌<◌}
use native.Mathlib.Omega.{arith}
use Rattle.bits.proofs.Sight.{sighted}
use Rattle.counted.proofs.Copied.{both, hopped_on}
use Rattle.counted.proofs.Spans.{packet_kept, packet_metres_lem}
use Rattle.passing.proofs.Sorts.{Kept, kept_long}
use Rattle.passing.proofs.Sweeping.{Edge, front_at, edge_front, edge_on, edge_few, edge_within}
use Rattle.telling.proofs.Hopped.{Hopped}
use Rattle.telling.proofs.Hopped.Hopped.{there as here}
use Rattle.telegram.proofs.swift.sweep.Goals as goal

pub returns-in_default : goal.returns-in_default
returns-in_default c = inl (refl, refl)

pub loop-w-init : goal.loop-w-init
loop-w-init c =
    let s = c.args.s.now in
    let e = sym c.header.ensures ∙ c.in-Some.is in
    (edge_front s c.args.n e c.requires.0, λ h. rw (front_at s c.args.n e) here)

pub ended-requires : goal.ended-requires
ended-requires c = c.loop-w.invariant

pub returns-in_default-ahead : goal.returns-in_default-ahead
returns-in_default-ahead c = c.ended.ensures

pub returns-then-p-eq0 : goal.returns-then-p-eq0
returns-then-p-eq0 c = inr c.loop-w.invariant.0

pub returns-then-collides_from_both : goal.returns-then-collides_from_both
returns-then-collides_from_both c = inr c.loop-w.invariant.0

pub overflow_add-c : goal.overflow_add-c
overflow_add-c c =
    let long : ℕ = c.behind-long.result in
    let some : 0 < c.packet-p.result.values = omega arith in
    let there = sighted c.args.s.now c.args.n 23 c.loop-w.c.at _ _ (sym c.ahead.ensures ∙ c.in-Some-ahead.is) in
    let kept : Kept c.args.s.now c.loop-w.c.at long c.packet-p.result.values × (c.loop-w.c.at + long ≤ c.args.n) = rw (← c.packet-p.ensures) at
    (packet_kept c.args.s.now c.args.n there.ahead there.room long (rw c.packet-p.ensures at some)) in
    let following : Edge c.args.s.now c.args.n (c.loop-w.c.at + long) (c.loop-w.count + c.packet-p.result.values) = edge_on c.loop-w.invariant.0 there.ahead kept.0 c.behind-long.ensures kept.1
    (sym c.if-collides_from_both.false ∙ rw (c.behind.ensures, c.behind-in-loop-w.ensures) at c.collides_from_both.ensures) in
    omega (arith, edge_within (following), c.requires.0)

pub overflow_add-count : goal.overflow_add-count
overflow_add-count c =
    let long : ℕ = c.behind-long.result in
    let some : 0 < c.packet-p.result.values = omega arith in
    let there = sighted c.args.s.now c.args.n 23 c.loop-w.c.at _ _ (sym c.ahead.ensures ∙ c.in-Some-ahead.is) in
    let kept : Kept c.args.s.now c.loop-w.c.at long c.packet-p.result.values × (c.loop-w.c.at + long ≤ c.args.n) = rw (← c.packet-p.ensures) at
    (packet_kept c.args.s.now c.args.n there.ahead there.room long (rw c.packet-p.ensures at some)) in
    let following : Edge c.args.s.now c.args.n (c.loop-w.c.at + long) (c.loop-w.count + c.packet-p.result.values) = edge_on c.loop-w.invariant.0 there.ahead kept.0 c.behind-long.ensures kept.1
    (sym c.if-collides_from_both.false ∙ rw (c.behind.ensures, c.behind-in-loop-w.ensures) at c.collides_from_both.ensures) in
    omega (arith, edge_few (following), edge_within (following), c.requires.0)

pub loop-w-smaller : goal.loop-w-smaller
loop-w-smaller c =
    let long : ℕ = c.behind-long.result in
    let some : 0 < c.packet-p.result.values = omega arith in
    let there = sighted c.args.s.now c.args.n 23 c.loop-w.c.at _ _ (sym c.ahead.ensures ∙ c.in-Some-ahead.is) in
    let kept : Kept c.args.s.now c.loop-w.c.at long c.packet-p.result.values × (c.loop-w.c.at + long ≤ c.args.n) = rw (← c.packet-p.ensures) at
    (packet_kept c.args.s.now c.args.n there.ahead there.room long (rw c.packet-p.ensures at some)) in
    let k = kept in
    omega (arith, kept_long k.0, k.1)

pub loop-w-preserved : goal.loop-w-preserved
loop-w-preserved c =
    let long : ℕ = c.behind-long.result in
    let some : 0 < c.packet-p.result.values = omega arith in
    let there = sighted c.args.s.now c.args.n 23 c.loop-w.c.at _ _ (sym c.ahead.ensures ∙ c.in-Some-ahead.is) in
    let kept : Kept c.args.s.now c.loop-w.c.at long c.packet-p.result.values × (c.loop-w.c.at + long ≤ c.args.n) = rw (← c.packet-p.ensures) at
    (packet_kept c.args.s.now c.args.n there.ahead there.room long (rw c.packet-p.ensures at some)) in
    let following : Edge c.args.s.now c.args.n (c.loop-w.c.at + long) (c.loop-w.count + c.packet-p.result.values) = edge_on c.loop-w.invariant.0 there.ahead kept.0 c.behind-long.ensures kept.1
    (sym c.if-collides_from_both.false ∙ rw (c.behind.ensures, c.behind-in-loop-w.ensures) at c.collides_from_both.ensures) in
    let marked : c.loop-w.metric ≡ true → c.packet-p.result.metric ≡ true → Hopped c.args.s.now 50 (c.loop-w.c.at + long) = λ before now_too. let m = packet_metres_lem c.args.s.now c.args.n there.ahead there.room long (rw c.packet-p.ensures at some)
    (rw c.packet-p.ensures at now_too) in
    let r = there.within in
    let l = there.room in
    hopped_on (c.loop-w.invariant.1 before) there.ahead (omega arith) c.behind-long.ensures m in
    (following, λ h. let m = both _ _ h in marked m.0 m.1)
