-- Entries that say the same have the same normal form. Assumes nothing.
use mathlib.Core.Bool.{Bool, true, false, cond, ◌&&◌}
use mathlib.Core.List.{List, [], ◌∷◌}
use mathlib.Core.Path.{◌≡◌, refl, sym, ap, ap₂, ◌∙◌}
use Prim.Native.Nat.{ℕ, ◌≤◌}
use native.Mathlib.Omega.{arith}
use lib.Dec.{eqb}
use borrow.Author.Tests.{eqb-true, eqb-false}
use Rattle.format.specs.Fields.{Field}
use Rattle.format.specs.Telegrams.{Entry}
use Rattle.distance.specs.Steps.{decimetres, steps}
use Rattle.format.specs.Normal.{View, view, choose, Said, says_under, metres, metric, best, put, normal_under}
use Rattle.format.specs.Normal.Said.{sent, apart, long}
use Rattle.format.specs.Normal.View.{kept, scales, measures}
use Rattle.laws.proofs.Views.{metric_none, metric_kept, metric_scales, metric_measures, normal_none, normal_kept, normal_scales, normal_measures}
use Rattle.laws.proofs.Told.{AllFair, Tells}
use Rattle.laws.proofs.OneScale.{one_scale}

abbrev entry_of : Field → ℕ → Entry
entry_of f v = record { field = f; value = v }

-- ---- entries under q that say the same as entries under r

data Same : ℕ → ℕ → List Entry → List Entry → Type 0 where
  none : {q r : ℕ} → Same q r [] []
  stays : {q r : ℕ} {a b : List Entry} (e : Entry) → view e ≡ kept → Same q r a b → Same q r (e ∷ a) (e ∷ b)
  scaled : {q r : ℕ} {a b : List Entry} (d e : Entry) → view d ≡ scales → view e ≡ scales → d.field ≡ e.field
      → Same d.value e.value a b → Same q r (d ∷ a) (e ∷ b)
  measured : {q r : ℕ} {a b : List Entry} (d e : Entry) → view d ≡ measures → view e ≡ measures → d.field ≡ e.field
      → decimetres q d.value ≡ decimetres r e.value → Same q r a b → Same q r (d ∷ a) (e ∷ b)

module _ (q r : ℕ) (d e : Entry) (a b : List Entry)
    (ih : (q2 r2 : ℕ) → says_under q2 a ≡ says_under r2 b → Same q2 r2 a b) where
  abbrev said : ℕ → Entry → View → List Entry → List Said
  said s x k xs =
      choose k (sent x.field x.value) (apart x.field) (long x.field (decimetres s x.value)) ∷ says_under (choose k s x.value s) xs

  same_at : (j k : View) → view d ≡ j → view e ≡ k → said q d j a ≡ said r e k b → Same q r (d ∷ a) (e ∷ b)
  same_at kept kept hj hk h =
      let ef : d.field ≡ e.field = cc in
      let ev : d.value ≡ e.value = cc in
      let et : says_under q a ≡ says_under r b = cc in
      let ee : d ≡ e = ap₂ entry_of ef ev in
      rw (← ee) (stays {b = b} d hj (ih q r et))
  same_at scales scales hj hk h = scaled d e hj hk (cc) (ih d.value e.value (cc))
  same_at measures measures hj hk h = measured {q = q} {r = r} d e hj hk (cc) (cc) (ih q r (cc))
  same_at kept scales hj hk h = let z : ◌≡◌ {A = ℕ} 0 1 = cc in absurd (omega arith)
  same_at kept measures hj hk h = let z : ◌≡◌ {A = ℕ} 0 1 = cc in absurd (omega arith)
  same_at scales kept hj hk h = let z : ◌≡◌ {A = ℕ} 0 1 = cc in absurd (omega arith)
  same_at scales measures hj hk h = let z : ◌≡◌ {A = ℕ} 0 1 = cc in absurd (omega arith)
  same_at measures kept hj hk h = let z : ◌≡◌ {A = ℕ} 0 1 = cc in absurd (omega arith)
  same_at measures scales hj hk h = let z : ◌≡◌ {A = ℕ} 0 1 = cc in absurd (omega arith)

same : (q r : ℕ) (a b : List Entry) → says_under q a ≡ says_under r b → Same q r a b
unfolding says_under
same q r [] [] h = none
same q r [] (e ∷ b) h = let z : ◌≡◌ {A = ℕ} 0 1 = cc in absurd (omega arith)
same q r (d ∷ a) [] h = let z : ◌≡◌ {A = ℕ} 0 1 = cc in absurd (omega arith)
same q r (d ∷ a) (e ∷ b) h = same_at q r d e a b (λ q2 r2. same q2 r2 a b) (view d) (view e) refl refl h

-- ---- the scale of the normal form

same_metric : {q r : ℕ} {a b : List Entry} → Same q r a b → metric q a ≡ metric r b
same_metric (none {q = q} {r = r}) = metric_none q ∙ sym (metric_none r)
same_metric (stays {q = q} {r = r} {a = a} {b = b} e h l) = metric_kept e a q h ∙ same_metric l ∙ sym (metric_kept e b r h)
same_metric (scaled {q = q} {r = r} {a = a} {b = b} d e hd he f l) = metric_scales d a q hd ∙ sym (metric_scales e b r he)
same_metric (measured {q = q} {r = r} {a = a} {b = b} d e hd he f m l) =
    metric_measures d a q hd
    ∙ ap₂ ◌&&◌ (ap₂ metres f m) (same_metric l)
    ∙ sym (metric_measures e b r he)

-- the counts of the one are what the other scale tells
same_tells : {q r : ℕ} {a b : List Entry} → Same q r a b → AllFair b → Tells q r a
same_tells none f = tt
same_tells (stays {q = q} {r = r} {a = a} e h l) f = rw h (same_tells l f.1)
same_tells (scaled {q = q} {r = r} {a = a} d e hd he g l) f = rw hd tt
same_tells (measured {q = q} {r = r} {a = a} {b = b} d e hd he g m l) f =
    rw hd
    (record { count = e.value; small = rw g f.0.small; finite = rw g he; exact = sym m }, same_tells l f.1)

best_same : (q r : ℕ) (a b : List Entry) → q ≤ 2 → r ≤ 2 → AllFair a → AllFair b → Same q r a b → best q a ≡ best r b
best_same q r a b hq hr fa fb l = by_test (metric q a) (metric r b) refl (same_metric l)
  where
    by_test : (m n : Bool) → metric q a ≡ m → m ≡ n → cond m 1 q ≡ cond n 1 r
    by_test true true hm e = refl
    by_test true false hm e = cc
    by_test false true hm e = cc
    by_test false false hm e = by_scale (eqb r q) refl
      where
        by_scale : (t : Bool) → eqb r q ≡ t → q ≡ r
        by_scale true h = sym (eqb-true r q h)
        by_scale false h = absurd (one_scale q r hq hr (eqb-false r q h) a fa hm (same_tells l fb))

-- ---- the normal form

normal_same_at : {q r : ℕ} {a b : List Entry} → Same q r a b → (s : ℕ) → AllFair a → AllFair b → normal_under q s a ≡ normal_under r s b
normal_same_at (none {q = q} {r = r}) s fa fb = normal_none q s ∙ sym (normal_none r s)
normal_same_at (stays {q = q} {r = r} {a = a} {b = b} e h l) s fa fb =
    normal_kept e a q s h ∙ ap (λ (x : List Entry). e ∷ x) (normal_same_at l s fa.1 fb.1) ∙ sym (normal_kept e b r s h)
normal_same_at (scaled {q = q} {r = r} {a = a} {b = b} d e hd he f l) s fa fb =
    let v = best e.value b in
    let m : best d.value a ≡ v = best_same d.value e.value a b (fa.0.known hd) (fb.0.known he) fa.1 fb.1 l in
    normal_scales d a q s hd
    ∙ ap (λ (x : ℕ). put d x ∷ normal_under d.value x a) m
    ∙ ap₂ (λ (x : Field) (y : List Entry). entry_of x v ∷ y) f (normal_same_at l v fa.1 fb.1)
    ∙ sym (normal_scales e b r s he)
normal_same_at (measured {q = q} {r = r} {a = a} {b = b} d e hd he f m l) s fa fb =
    normal_measures d a q s hd
    ∙ ap (λ (x : ℕ). put d (steps s x) ∷ normal_under q s a) m
    ∙ ap₂ (λ (x : Field) (y : List Entry). entry_of x (steps s (decimetres r e.value)) ∷ y) f (normal_same_at l s fa.1 fb.1)
    ∙ sym (normal_measures e b r s he)

pub normal_same : (q r s : ℕ) (a b : List Entry) → AllFair a → AllFair b → says_under q a ≡ says_under r b
    → normal_under q s a ≡ normal_under r s b
normal_same q r s a b fa fb h = normal_same_at (same q r a b h) s fa fb
