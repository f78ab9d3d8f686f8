-- `lists::others` meets its contract: what is counted in all stays the same from turn to turn. Assumes nothing.
use mathlib.Core.Path.{◌≡◌, sym, ap, ◌∙◌}
use Prim.Native.Nat.{◌+◌, ◌-◌, ◌≤◌}
use native.Mathlib.Omega.{arith}
use Rattle.hops.specs.Hops.{Small}
use Rattle.hops.specs.declared.Hop.{Hop}
use Rattle.hops.proofs.Kept.{kept_is, kept_bits, kept_none}
use Rattle.lists.proofs.Turns.{going_on, going_broken, going_end, going_astray}
use Rattle.lists.proofs.others.Goals as goal

pub returns-in_err-h : goal.returns-in_err-h
returns-in_err-h g c =
    let i = c.loop.invariant in
    c.from_residual.ensures
    ∙ going_broken i (c.args.times - (c.loop.counter + 1)) (omega arith) (kept_none _ (sym (c.find.ensures i.bounded.0) ∙ c.in_err-h.was))

pub overflow_add-c : goal.overflow_add-c
overflow_add-c g c =
    let i = c.loop.invariant in
    let a = c.args in
    let h = c.in_ok-h.h in
    let is : g.G.Group.at a.s.now a.n c.loop.c.at ≡ h = kept_is _ h (sym (c.find.ensures i.bounded.0) ∙ c.in_ok-h.was) in
    let small : Small h = rw (← is) (g.met.G.Group.small a.s.now a.n c.loop.c.at) in
    omega (arith, i.bounded.1, small.0)

pub loop-preserved : goal.loop-preserved
loop-preserved g c =
    let i = c.loop.invariant in
    let a = c.args in
    let h = c.in_ok-h.h in
    let kept = sym (c.find.ensures i.bounded.0) ∙ c.in_ok-h.was in
    let is : g.G.Group.at a.s.now a.n c.loop.c.at ≡ h = kept_is _ h kept in
    let some = kept_bits _ h kept in
    let small : Small h = rw (← is) (g.met.G.Group.small a.s.now a.n c.loop.c.at) in
    let low : c.loop.c.at ≤ a.n = g.met.G.Group.inside a.s.now a.n c.loop.c.at some in
    going_on i (a.times - (c.loop.counter + 1)) h (omega arith) is (λ z. some (ap (λ (k : Hop). k.bits) is ∙ z)) (omega (arith, low, i.bounded.0)) small

pub returns-then-c-end : goal.returns-then-c-end
returns-then-c-end g c = going_end c.loop.invariant (omega arith) c.if-c-end.true

pub returns : goal.returns
returns g c = going_astray c.loop.invariant (omega arith) c.if-c-end.false
