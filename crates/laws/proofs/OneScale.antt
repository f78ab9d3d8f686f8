-- "otherwise it keeps its scale, which is then the only one that can say it". Assumes nothing.
use mathlib.Core.Bool.{true, false}
use mathlib.Core.List.{List, [], ◌∷◌}
use mathlib.Core.Path.{◌≡◌, refl, sym, ◌∙◌}
use Prim.Native.Nat.{ℕ, zero, suc, ◌*◌, ◌^◌, ◌<◌, ◌≤◌}
use native.Mathlib.Omega.{arith}
use borrow.Author.Tests.{ne_eqb}
use Rattle.format.specs.Fields.{Sense}
use Rattle.format.specs.Telegrams.{Entry}
use Rattle.distance.specs.Steps.{decimetres}
use Rattle.format.specs.Normal.{View, view_of, view, metric}
use Rattle.format.specs.Normal.View.{kept, scales, measures}
use Rattle.laws.proofs.Exchange.{Metric, measures_is}
use Rattle.laws.proofs.Exchange.Metric.{always, mostly}
use Rattle.laws.proofs.Told.{Fair, AllFair, Told, Tells, choose_t, told_same, metric_tells}

ten_measures : {k : Sense} (x : ℕ) → Metric k → view_of k (x * 10) ≡ measures
ten_measures x always = refl
ten_measures x mostly = rw (ne_eqb (x * 10) 32767 (λ h. omega arith))

-- what two scales can say, metres can
module _ (e : Entry) (f : Fair e) (h : view e ≡ measures) where
  hundreds : (q x : ℕ) → x * 100 ≡ decimetres q e.value → x * 10 < 2 ^ e.field.width → Told q 1 e
  hundreds q x i small =
      record { count = x * 10; small = small; finite = ten_measures x (measures_is e.field.sense e.value h); exact = omega arith }

  told_one : (q r : ℕ) → q ≤ 2 → r ≤ 2 → (r ≡ q → ⊥) → Told q r e → Told q 1 e
  told_one zero zero hq hr n t = absurd (n refl)
  told_one zero (suc zero) hq hr n t = t
  told_one zero (suc (suc zero)) hq hr n t =
      let x : t.count * 100 ≡ e.value * 1 = t.exact in
      hundreds 0 t.count x (let s = f.small in omega arith)
  told_one zero (suc (suc (suc r))) hq hr n t = absurd (omega arith)
  told_one (suc zero) r hq hr n t = told_same 1 e f h
  told_one (suc (suc zero)) zero hq hr n t =
      let x : t.count * 1 ≡ e.value * 100 = t.exact in
      hundreds 2 e.value refl (let s = t.small in omega arith)
  told_one (suc (suc zero)) (suc zero) hq hr n t = t
  told_one (suc (suc zero)) (suc (suc zero)) hq hr n t = absurd (n refl)
  told_one (suc (suc zero)) (suc (suc (suc r))) hq hr n t = absurd (omega arith)
  told_one (suc (suc (suc q))) r hq hr n t = absurd (omega arith)

-- so where metres cannot say them, one scale alone can
module _ (q r : ℕ) (hq : q ≤ 2) (hr : r ≤ 2) (n : r ≡ q → ⊥) where
  tells_one_at : (e : Entry) (es : List Entry) → Fair e → (Tells q r es → Tells q 1 es) → (k : View) → view e ≡ k
      → choose_t k (Tells q r es) Unit (Told q r e × Tells q r es) → choose_t k (Tells q 1 es) Unit (Told q 1 e × Tells q 1 es)
  tells_one_at e es f ih kept h t = ih t
  tells_one_at e es f ih scales h t = tt
  tells_one_at e es f ih measures h t = (told_one e f h q r hq hr n t.0, ih t.1)

  tells_one : (es : List Entry) → AllFair es → Tells q r es → Tells q 1 es
  tells_one [] f t = tt
  tells_one (e ∷ es) f t = tells_one_at e es f.0 (tells_one es f.1) (view e) refl t

  pub one_scale : (es : List Entry) → AllFair es → metric q es ≡ false → Tells q r es → ⊥
  one_scale es f m t =
      let y : true ≡ false = sym (metric_tells q es (tells_one es f t)) ∙ m in
      let z : ◌≡◌ {A = ℕ} 0 1 = cc in
      omega arith
