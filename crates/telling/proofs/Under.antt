-- What a scale reaches: the metric test and the normal form of entries that are put together, where no distance stands before the first scale of
-- the later ones; and entries that are their own normal form. Assumes nothing.
use mathlib.Core.Bool.{Bool, true, false, cond, ◌&&◌}
use mathlib.Core.List.{List, [], ◌∷◌, ◌++◌}
use mathlib.Core.Path.{◌≡◌, refl, sym, ap, ◌∙◌}
use Prim.Native.Nat.{ℕ, zero, suc, ◌^◌, ◌<◌}
use native.Mathlib.Nat.{mul-div_cancel}
use native.Mathlib.Omega.{arith}
use Rattle.format.specs.Telegrams.{Entry}
use Rattle.distance.specs.Steps.{decimetres, steps}
use Rattle.format.specs.Normal.{View, view, metres, metric, best, normal_under, normal}
use Rattle.format.specs.Normal.View.{kept, scales, measures}
use Rattle.laws.proofs.Views.{metric_none, metric_kept, metric_scales, metric_measures, normal_none, normal_kept, normal_scales, normal_measures}
use Rattle.laws.proofs.Told.{choose_t}

-- ---- no distance before the first scale

abbrev pub Led : List Entry → Type 0
Led [] = Unit
Led (e ∷ es) = choose_t (view e) (Led es) Unit ⊥

-- then the scales that held before do not matter
pub normal_led : (q r q2 r2 : ℕ) (es : List Entry) → Led es → normal_under q r es ≡ normal_under q2 r2 es
normal_led q r q2 r2 [] l = normal_none q r ∙ sym (normal_none q2 r2)
normal_led q r q2 r2 (e ∷ es) l = by_view (view e) refl (normal_led q r q2 r2 es) l
  where
    by_view : (k : View) → view e ≡ k → (Led es → normal_under q r es ≡ normal_under q2 r2 es) → choose_t k (Led es) Unit ⊥
        → normal_under q r (e ∷ es) ≡ normal_under q2 r2 (e ∷ es)
    by_view kept h ih i = normal_kept e es q r h ∙ ap (λ (x : List Entry). e ∷ x) (ih i) ∙ sym (normal_kept e es q2 r2 h)
    by_view scales h ih i = normal_scales e es q r h ∙ sym (normal_scales e es q2 r2 h)
    by_view measures h ih i = absurd i

pub metric_led : (q : ℕ) (es : List Entry) → Led es → metric q es ≡ true
metric_led q [] l = metric_none q
metric_led q (e ∷ es) l = by_view (view e) refl (metric_led q es) l
  where
    by_view : (k : View) → view e ≡ k → (Led es → metric q es ≡ true) → choose_t k (Led es) Unit ⊥ → metric q (e ∷ es) ≡ true
    by_view kept h ih i = metric_kept e es q h ∙ ih i
    by_view scales h ih i = metric_scales e es q h
    by_view measures h ih i = absurd i

-- ---- entries, and behind them some that are led

module _ (bs : List Entry) (l : Led bs) where
  -- `metric` up to the next scale is `metric` of the entries alone
  pub metric_append : (q : ℕ) (xs : List Entry) → metric q (xs ++ bs) ≡ metric q xs
  metric_append q [] = metric_led q bs l ∙ sym (metric_none q)
  metric_append q (a ∷ xs) = by_view (metric_append q xs) (view a) refl
    where
      by_view : metric q (xs ++ bs) ≡ metric q xs → (k : View) → view a ≡ k → metric q (a ∷ (xs ++ bs)) ≡ metric q (a ∷ xs)
      by_view ih kept h =
          metric_kept a (xs ++ bs) q h ∙ ih ∙ sym (metric_kept a xs q h)
      by_view ih scales h = metric_scales a (xs ++ bs) q h ∙ sym (metric_scales a xs q h)
      by_view ih measures h =
          metric_measures a (xs ++ bs) q h
          ∙ ap (λ (b : Bool). metres a.field (decimetres q a.value) && b) ih
          ∙ sym (metric_measures a xs q h)

  pub best_append : (q : ℕ) (xs : List Entry) → best q (xs ++ bs) ≡ best q xs
  best_append q xs = ap (λ (b : Bool). cond b 1 q) (metric_append q xs)

  -- each is told by itself
  pub normal_append : (q r : ℕ) (xs : List Entry) → normal_under q r (xs ++ bs) ≡ normal_under q r xs ++ normal bs
  normal_append q r [] = normal_led q r 0 0 bs l ∙ ap (λ (x : List Entry). x ++ normal bs) (sym (normal_none q r))
  normal_append q r (a ∷ xs) = by_view (λ q2 r2. normal_append q2 r2 xs) (view a) refl
    where
      by_view : ((q2 r2 : ℕ) → normal_under q2 r2 (xs ++ bs) ≡ normal_under q2 r2 xs ++ normal bs) → (k : View) → view a ≡ k
          → normal_under q r (a ∷ (xs ++ bs)) ≡ normal_under q r (a ∷ xs) ++ normal bs
      by_view ih kept h = rw (normal_kept a (xs ++ bs) q r h, normal_kept a xs q r h, ih q r)
      by_view ih scales h =
          rw (
            normal_scales a (xs ++ bs) q r h,
            normal_scales a xs q r h,
            best_append a.value xs,
            ih a.value (best a.value xs),
          )
      by_view ih measures h = rw (normal_measures a (xs ++ bs) q r h, normal_measures a xs q r h, ih q r)

pub led_append : (xs bs : List Entry) → Led xs → Led bs → Led (xs ++ bs)
led_append [] bs k l = l
led_append (a ∷ xs) bs k l = by_view (λ i. led_append xs bs i l) (view a) k
  where
    by_view : (Led xs → Led (xs ++ bs)) → (x : View) → choose_t x (Led xs) Unit ⊥ → choose_t x (Led (xs ++ bs)) Unit ⊥
    by_view ih kept i = ih i
    by_view ih scales i = tt
    by_view ih measures i = absurd i

-- ---- entries that are their own normal form

-- every scale is that of metres
abbrev pub InMetres : List Entry → Type 0
InMetres [] = Unit
InMetres (e ∷ es) = (view e ≡ scales → e.value ≡ 1) × InMetres es

ten_positive : (q : ℕ) → 0 < 10 ^ q
ten_positive zero = omega arith
ten_positive (suc q) = let h = ten_positive q in omega arith

pub steps_same : (q v : ℕ) → steps q (decimetres q v) ≡ v
steps_same q v = mul-div_cancel v (ten_positive q)

cond_same : (b : Bool) → ◌≡◌ {A = ℕ} (cond b 1 1) 1
cond_same true = refl
cond_same false = refl

pub best_metres : (q : ℕ) (es : List Entry) → q ≡ 1 → best q es ≡ q
best_metres q es h = rw h (cond_same (metric 1 es))

pub normal_metres : (q : ℕ) (es : List Entry) → InMetres es → normal_under q q es ≡ es
normal_metres q [] m = normal_none q q
normal_metres q (e ∷ es) m = by_view (λ r. normal_metres r es m.1) (view e) refl
  where
    by_view : ((r : ℕ) → normal_under r r es ≡ es) → (k : View) → view e ≡ k → normal_under q q (e ∷ es) ≡ e ∷ es
    by_view ih kept h = rw (normal_kept e es q q h, ih q)
    by_view ih scales h =
        rw (normal_scales e es q q h, best_metres e.value es (m.0 h), ih e.value)
    by_view ih measures h = rw (normal_measures e es q q h, steps_same q e.value, ih q)

pub metres_append : (xs bs : List Entry) → InMetres xs → InMetres bs → InMetres (xs ++ bs)
metres_append [] bs k l = l
metres_append (a ∷ xs) bs k l = (k.0, metres_append xs bs k.1 l)
