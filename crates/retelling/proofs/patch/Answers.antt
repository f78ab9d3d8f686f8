-- `retelling::patch` meets its contract: with the packets that are left put still, all of them are. The measure is how many bits are left. Assumes nothing.
use mathlib.Core.Path.{◌≡◌, sym, ap, ◌∙◌}
use Prim.Native.Nat.{ℕ, ◌+◌}
use native.Mathlib.Omega.{arith}
use Rattle.bits.proofs.Looked.{number_lt}
use Rattle.metre_lists.proofs.Reading.{there}
use Rattle.told.specs.Metres.{number_in}
use Rattle.retelling.proofs.Packets.{walking_first, walking_ends, walking_stops, walking_on, patched_short, patched_little, patched_far, patched_is}
use Rattle.retelling.proofs.patch.Goals as goal

pub returns-then-s-lt8 : goal.returns-then-s-lt8
returns-then-s-lt8 c = let a = c.args in patched_short a.s.now a.n a.out.now c.if-s-lt8.true

pub returns-then-out-lt4 : goal.returns-then-out-lt4
returns-then-out-lt4 c = let a = c.args in patched_little a.s.now a.n a.out.now (omega arith) c.if-out-lt4.true

pub returns-then-n-gt830 : goal.returns-then-n-gt830
returns-then-n-gt830 c = let a = c.args in patched_far a.s.now a.n a.out.now (omega arith) (omega arith) c.if-n-gt830.true

pub loop-x-init : goal.loop-x-init
loop-x-init c = let a = c.args in walking_first a.s.now a.n a.out.now

pub overflow_add-x : goal.overflow_add-x
overflow_add-x c = omega (arith, c.loop-x.invariant.low)

pub look-requires : goal.look-requires
look-requires c = tt

pub tell-requires : goal.tell-requires
tell-requires c = omega (arith, c.loop-x.invariant.keeps)

pub behind-long-requires : goal.behind-long-requires
behind-long-requires c = tt

pub shape_of-out-then-long-eq0 : goal.shape_of-out-then-long-eq0
shape_of-out-then-long-eq0 c = c.out-1.given ∙ c.loop-x.invariant.keeps

pub returns-then-long-eq0 : goal.returns-then-long-eq0
returns-then-long-eq0 c =
    let size : c.behind-long.result ≡ number_in c.args.s.now 13 (c.loop-x.x + 10) = c.behind-long.ensures ∙ there c.args.s.now c.loop-x.x (omega arith) c.look.ensures 10 13 (omega arith) in
    let a = c.args in
    walking_stops a.s.now a.n c.loop-x.invariant c.loop-x-test.true c.tell.ensures (sym (size) ∙ c.if-long-eq0.true)
    ∙ patched_is a.s.now a.n a.out.now (omega arith) (omega arith) (omega arith)

pub overflow_add-x-in-loop-x : goal.overflow_add-x-in-loop-x
overflow_add-x-in-loop-x c =
    let size : c.behind-long.result ≡ number_in c.args.s.now 13 (c.loop-x.x + 10) = c.behind-long.ensures ∙ there c.args.s.now c.loop-x.x (omega arith) c.look.ensures 10 13 (omega arith) in
    let b = number_lt c.args.s.now 13 (c.loop-x.x + 10) in omega (arith, size, c.loop-x.invariant.low)

pub loop-x-smaller : goal.loop-x-smaller
loop-x-smaller c = omega (arith, c.loop-x.invariant.low)

pub loop-x-preserved : goal.loop-x-preserved
loop-x-preserved c =
    let size : c.behind-long.result ≡ number_in c.args.s.now 13 (c.loop-x.x + 10) = c.behind-long.ensures ∙ there c.args.s.now c.loop-x.x (omega arith) c.look.ensures 10 13 (omega arith) in
    let a = c.args in
    walking_on a.s.now a.n c.loop-x.invariant c.loop-x-test.true c.tell.ensures (λ z. c.if-long-eq0.false (size ∙ z)) c.out-1.given
    (ap (λ (k : ℕ). c.loop-x.x + k) (size))

pub shape_of-out : goal.shape_of-out
shape_of-out c = c.loop-x.invariant.keeps

pub returns : goal.returns
returns c =
    let a = c.args in
    walking_ends a.s.now a.n c.loop-x.invariant (omega arith) ∙ patched_is a.s.now a.n a.out.now (omega arith) (omega arith) (omega arith)
