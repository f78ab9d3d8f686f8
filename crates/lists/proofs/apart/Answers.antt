-- `lists::apart` meets its contract: the first group, N_ITER, and as many groups more. Assumes nothing.
use mathlib.Core.Path.{◌≡◌, refl, sym, ap, ◌∙◌}
use native.Mathlib.Omega.{arith}
use Rattle.bits.proofs.Fields.{taken, skipped}
use Rattle.hops.specs.Hops.{Small, counted}
use Rattle.hops.specs.declared.Hop.{Hop}
use Rattle.hops.proofs.Kept.{kept_is, kept_bits, kept_none}
use Rattle.lists.specs.Lists.{apart_at}
use Rattle.lists.proofs.Turns.{list_long, list_lacking, apart_broken, apart_short, apart_kept}
use Rattle.lists.proofs.apart.Goals as goal

pub returns-then-n-gt830 : goal.returns-then-n-gt830
returns-then-n-gt830 g c =
    let a = c.args in
    ap counted (list_long a.n a.head (apart_at (g.G.Group.at a.s.now a.n) a.s.now a.n a.end a.before) a.start.at (omega arith))

pub returns-in_err-first : goal.returns-in_err-first
returns-in_err-first g c =
    let a = c.args in
    c.from_residual.ensures
    ∙ ap counted
    (list_lacking a.n a.head (apart_at (g.G.Group.at a.s.now a.n) a.s.now a.n a.end a.before) a.start.at (omega arith)
    (sym c.skip.ensures ∙ c.in_err-first.was))

pub returns-in_err-h : goal.returns-in_err-h
returns-in_err-h g c =
    let a = c.args in
    let at = g.G.Group.at a.s.now a.n in
    c.from_residual-in_err-h.ensures
    ∙ ap counted
    (apart_broken at a.s.now a.n a.head a.end a.before a.start.at (omega arith) (sym c.skip.ensures ∙ c.in_ok-first.was) (at c.in_ok-first.first.at) refl
    (kept_none _ (sym (c.find.ensures (omega arith)) ∙ c.in_err-h.was)))

pub overflow_add-iter : goal.overflow_add-iter
overflow_add-iter g c =
    let a = c.args in
    let h = c.in_ok-h.h in
    let p = skipped a.n a.head a.start.at _ (sym c.skip.ensures ∙ c.in_ok-first.was) in
    let is : g.G.Group.at a.s.now a.n c.in_ok-first.first.at ≡ h = kept_is _ h (sym (c.find.ensures (omega arith)) ∙ c.in_ok-h.was) in
    let small : Small h = rw (← is) (g.met.G.Group.small a.s.now a.n c.in_ok-first.first.at) in
    omega (arith, p.within, p.past, small.0)

pub returns-in_err-times : goal.returns-in_err-times
returns-in_err-times g c =
    let a = c.args in
    let at = g.G.Group.at a.s.now a.n in
    let h = c.in_ok-h.h in
    let kept = sym (c.find.ensures (omega arith)) ∙ c.in_ok-h.was in
    let is : at c.in_ok-first.first.at ≡ h = kept_is _ h kept in
    c.from_residual-in_err-times.ensures
    ∙ ap counted
    (apart_short at a.s.now a.n a.head a.end a.before a.start.at (omega arith) (sym c.skip.ensures ∙ c.in_ok-first.was) h is
    (λ z. kept_bits _ h kept (ap (λ (k : Hop). k.bits) is ∙ z)) (sym c.take.ensures ∙ c.in_err-times.was))

pub others-requires : goal.others-requires
others-requires g c =
    let a = c.args in
    let h = c.in_ok-h.h in
    let is : g.G.Group.at a.s.now a.n c.in_ok-first.first.at ≡ h = kept_is _ h (sym (c.find.ensures (omega arith)) ∙ c.in_ok-h.was) in
    let small : Small h = rw (← is) (g.met.G.Group.small a.s.now a.n c.in_ok-first.first.at) in
    let f = taken a.s.now a.n 5 _ _ _ (sym c.take.ensures ∙ c.in_ok-times.was) in
    ((omega arith, omega (arith, f.within, f.past), omega (arith, c.ranges.before.fits, f.small, small.1)), omega arith)

pub returns : goal.returns
returns g c =
    let a = c.args in
    let at = g.G.Group.at a.s.now a.n in
    let h = c.in_ok-h.h in
    let kept = sym (c.find.ensures (omega arith)) ∙ c.in_ok-h.was in
    let is : at c.in_ok-first.first.at ≡ h = kept_is _ h kept in
    c.others.ensures
    ∙ ap counted
    (apart_kept at a.s.now a.n a.head a.end a.before a.start.at (omega arith) (sym c.skip.ensures ∙ c.in_ok-first.was) h is
    (λ z. kept_bits _ h kept (ap (λ (k : Hop). k.bits) is ∙ z)) (sym c.take.ensures ∙ c.in_ok-times.was))
