-- `lists::list` meets its contract: the first group, N_ITER, and as many groups more. Assumes nothing.
use mathlib.Core.Path.{◌≡◌, refl, sym, ap, ◌∙◌}
use Prim.Native.Nat.{◌≤◌}
use native.Mathlib.Omega.{arith}
use Rattle.hops.specs.Hops.{Small, counted}
use Rattle.hops.specs.declared.Hop.{Hop}
use Rattle.hops.proofs.Bounds.{iter_small}
use Rattle.hops.proofs.Kept.{kept_is, kept_bits, kept_none}
use Rattle.lists.specs.Lists.{list_at}
use Rattle.lists.proofs.Turns.{list_long, list_lacking, first_low, first_short, first_broken, first_kept}
use Rattle.lists.proofs.list.Goals as goal

pub returns-then-n-gt830 : goal.returns-then-n-gt830
returns-then-n-gt830 g c =
    let a = c.args in
    ap counted (list_long a.n a.head (list_at a.s.now a.n g.W.Windowed.WIDTH g.W.Windowed.hop a.end a.before) a.start.at (omega arith))

pub returns-in_err-first : goal.returns-in_err-first
returns-in_err-first g c =
    let a = c.args in
    c.from_residual.ensures
    ∙ ap counted
    (list_lacking a.n a.head (list_at a.s.now a.n g.W.Windowed.WIDTH g.W.Windowed.hop a.end a.before) a.start.at (omega arith)
    (sym c.skip.ensures ∙ c.in_err-first.was))

pub returns-in_err-w : goal.returns-in_err-w
returns-in_err-w g c =
    let a = c.args in
    let W = g.W.Windowed in
    c.from_residual-in_err-w.ensures
    ∙ ap counted
    (first_short a.s.now a.n a.head W.WIDTH W.hop a.end a.before a.start.at (omega arith) (sym c.skip.ensures ∙ c.in_ok-first.was)
    (sym (rw c.WIDTH.ensures at c.ahead.ensures) ∙ c.in_err-w.was))

pub returns-in_err-h : goal.returns-in_err-h
returns-in_err-h g c =
    let a = c.args in
    let W = g.W.Windowed in
    c.from_residual-in_err-h.ensures
    ∙ ap counted
    (first_broken a.s.now a.n a.head W.WIDTH W.hop a.end a.before a.start.at (omega arith) (sym c.skip.ensures ∙ c.in_ok-first.was)
    (sym (rw c.WIDTH.ensures at c.ahead.ensures) ∙ c.in_ok-w.was) (W.hop c.in_ok-w.w) refl (kept_none _ (sym c.hop.ensures ∙ c.in_err-h.was)))

pub overflow_add-next : goal.overflow_add-next
overflow_add-next g c =
    let a = c.args in
    let W = g.W.Windowed in
    let h = c.in_ok-h.h in
    let low : c.in_ok-first.first.at ≤ 830 = first_low a.s.now a.n a.head W.WIDTH W.hop a.end a.before a.start.at (omega arith) (sym c.skip.ensures ∙ c.in_ok-first.was) in
    let is : W.hop c.in_ok-w.w ≡ h = kept_is _ h (sym c.hop.ensures ∙ c.in_ok-h.was) in
    let small : Small h = rw (← is) (g.met.W.Windowed.hop_small c.in_ok-w.w) in
    omega (arith, low, small.0)

pub overflow_add-next-2 : goal.overflow_add-next-2
overflow_add-next-2 g c =
    let a = c.args in
    let W = g.W.Windowed in
    let h = c.in_ok-h.h in
    let low : c.in_ok-first.first.at ≤ 830 = first_low a.s.now a.n a.head W.WIDTH W.hop a.end a.before a.start.at (omega arith) (sym c.skip.ensures ∙ c.in_ok-first.was) in
    let is : W.hop c.in_ok-w.w ≡ h = kept_is _ h (sym c.hop.ensures ∙ c.in_ok-h.was) in
    let small : Small h = rw (← is) (g.met.W.Windowed.hop_small c.in_ok-w.w) in
    omega (arith, low, small.0)

pub others-requires : goal.others-requires
others-requires g c =
    let a = c.args in
    let W = g.W.Windowed in
    let h = c.in_ok-h.h in
    let low : c.in_ok-first.first.at ≤ 830 = first_low a.s.now a.n a.head W.WIDTH W.hop a.end a.before a.start.at (omega arith) (sym c.skip.ensures ∙ c.in_ok-first.was) in
    let is : W.hop c.in_ok-w.w ≡ h = kept_is _ h (sym c.hop.ensures ∙ c.in_ok-h.was) in
    let small : Small h = rw (← is) (g.met.W.Windowed.hop_small c.in_ok-w.w) in
    let times : c.behind.result ≤ 31 = rw c.behind.ensures (iter_small _ _) in
    ((omega arith, omega (arith, low, small.0), omega (arith, c.ranges.before.fits, times, small.1)), omega arith)

pub returns : goal.returns
returns g c =
    let a = c.args in
    let W = g.W.Windowed in
    let h = c.in_ok-h.h in
    let kept = sym c.hop.ensures ∙ c.in_ok-h.was in
    let is : W.hop c.in_ok-w.w ≡ h = kept_is _ h kept in
    c.others.ensures
    ∙ rw c.behind.ensures
    (ap counted
    (first_kept a.s.now a.n a.head W.WIDTH W.hop a.end a.before a.start.at (omega arith) (sym c.skip.ensures ∙ c.in_ok-first.was)
    (sym (rw c.WIDTH.ensures at c.ahead.ensures) ∙ c.in_ok-w.was) h is (λ z. kept_bits _ h kept (ap (λ (k : Hop). k.bits) is ∙ z))))
