-- Distances told under another scale, and that the scale of the normal form can tell them. Assumes nothing.
use mathlib.Core.Bool.{Bool, true, false, cond, ◌&&◌}
use mathlib.Core.List.{List, [], ◌∷◌, ◌++◌}
use mathlib.Core.Path.{◌≡◌, refl, sym, ap, ap₂, ◌∙◌}
use Prim.Native.Nat.{ℕ, zero, suc, ◌*◌, ◌%◌, ◌^◌, ◌<◌, ◌≤◌}
use native.Mathlib.Nat.{mul-div_cancel}
use native.Mathlib.Omega.{arith}
use lib.Dec.{eqb, ltb}
use borrow.Author.Tests.{eqb-true, eq-eqb, ltb-true, lt-ltb}
use Rattle.format.specs.Rules.{State, Terms, step}
use Rattle.format.specs.Telegrams.{Entry, entry, Run, Fits}
use Rattle.format.specs.Telegrams.Run.{last, more}
use Rattle.distance.specs.Steps.{decimetres, steps}
use Rattle.format.specs.Normal.{View, view, choose, metres, metric, best, put}
use Rattle.format.specs.Normal.View.{kept, scales, measures}
use Rattle.laws.proofs.Sources.{width_named}
use Rattle.laws.proofs.Views.{metric_none, metric_kept, metric_scales, metric_measures}
use Rattle.laws.proofs.Exchange.{Passes, scale_le}

-- ---- entries as an accepted telegram has them

pub record Fair (e : Entry) : Type 0 where
  pub small : e.value < 2 ^ e.field.width
  pub known : view e ≡ scales → e.value ≤ 2

abbrev pub AllFair : List Entry → Type 0
AllFair [] = Unit
AllFair (e ∷ es) = Fair e × AllFair es

fair_entry : (p : Terms) (s : State) (v : ℕ) → Fits s v → Passes (step p s v) → Fair (entry s v)
fair_entry p s v f ok =
    record { small = rw (width_named s.todo v) f.small; known = λ h. scale_le p s v h ok }

pub fair : {p : Terms} {s : State} {es : List Entry} → Run p s es → AllFair es
fair {p} (last {s = s} {v = v} f e) = (fair_entry p s v f (rw e tt), tt)
fair {p} (more {s = s} {v = v} f e r) = (fair_entry p s v f (rw e tt), fair r)

pub fair_after : (ds es : List Entry) → AllFair (ds ++ es) → AllFair es
fair_after [] es f = f
fair_after (d ∷ ds) es f = fair_after ds es f.1

-- ---- a distance told under another scale

-- what e says under the scale q can be said under the scale r: a count of steps that fits its field and is a distance there
pub record Told (q r : ℕ) (e : Entry) : Type 0 where
  pub count : ℕ
  pub small : count < 2 ^ e.field.width
  pub finite : view (put e count) ≡ measures
  pub exact : decimetres r count ≡ decimetres q e.value

ten_positive : (q : ℕ) → 0 < 10 ^ q
ten_positive zero = omega arith
ten_positive (suc q) = let h = ten_positive q in omega arith

-- it is the whole steps of r
pub told_steps : {q r : ℕ} {e : Entry} (t : Told q r e) → steps r (decimetres q e.value) ≡ t.count
told_steps {r = r} t = ap (steps r) (sym t.exact) ∙ mul-div_cancel t.count (ten_positive r)

pub told_same : (q : ℕ) (e : Entry) → Fair e → view e ≡ measures → Told q q e
told_same q e f h = record { count = e.value; small = f.small; finite = h; exact = refl }

pub and_two : (a b : Bool) → (a && b) ≡ true → (a ≡ true) × (b ≡ true)
and_two true b h = (refl, h)
and_two false b h = (cc, cc)

chose : (k : View) → choose k false false true ≡ true → k ≡ measures
chose kept h = cc
chose scales h = cc
chose measures h = refl

-- "a whole number of metres that fits its field" is what the scale 1 can say
module _ (q : ℕ) (e : Entry) where
  abbrev d : ℕ
  d = decimetres q e.value

  told_metres : metres e.field d ≡ true → Told q 1 e
  told_metres h =
      let w = eqb (d % 10) 0 in
      let l = ltb (steps 1 d) (2 ^ e.field.width) in
      let a = and_two (w && l) (choose (view (put e (steps 1 d))) false false true) h in
      let b = and_two w l a.0 in
      let whole : d % 10 ≡ 0 = eqb-true (d % 10) 0 b.0 in
      record {
        count = steps 1 d;
        small = ltb-true (steps 1 d) (2 ^ e.field.width) b.1;
        finite = chose (view (put e (steps 1 d))) a.1;
        exact = omega arith;
      }

  metres_told : Told q 1 e → metres e.field d ≡ true
  metres_told t =
      let n : steps 1 d ≡ t.count = told_steps t in
      let x : t.count * 10 ≡ d = t.exact in
      rw (n, eq-eqb (d % 10) 0 (omega arith), lt-ltb t.count (2 ^ e.field.width) t.small, t.finite)

-- ---- every distance up to the next scale

abbrev pub choose_t : View → Type 0 → Type 0 → Type 0 → Type 0
choose_t kept a b c = a
choose_t scales a b c = b
choose_t measures a b c = c

-- the distances of es up to the next scale, that stand under the scale q, can all be said under the scale r
abbrev pub Tells : ℕ → ℕ → List Entry → Type 0
Tells q r [] = Unit
Tells q r (e ∷ es) = choose_t (view e) (Tells q r es) Unit (Told q r e × Tells q r es)

-- from what each distance has
module _ (q r : ℕ) (e : Entry) (es : List Entry) where
  pub tells_at : (k : View) → (k ≡ measures → Told q r e) → Tells q r es → choose_t k (Tells q r es) Unit (Told q r e × Tells q r es)
  tells_at kept h rest = rest
  tells_at scales h rest = tt
  tells_at measures h rest = (h refl, rest)

pub tells_same : (q : ℕ) (es : List Entry) → AllFair es → Tells q q es
tells_same q [] f = tt
tells_same q (e ∷ es) f = tells_at q q e es (view e) (told_same q e f.0) (tells_same q es f.1)

-- "every finite distance is a whole number of metres that fits its field": the scale 1 can say them all
module _ (q : ℕ) (e : Entry) (es : List Entry) where
  tells_metric_at : (k : View) → view e ≡ k → (metric q es ≡ true → Tells q 1 es) → metric q (e ∷ es) ≡ true
      → choose_t k (Tells q 1 es) Unit (Told q 1 e × Tells q 1 es)
  tells_metric_at kept v ih h = ih (sym (metric_kept e es q v) ∙ h)
  tells_metric_at scales v ih h = tt
  tells_metric_at measures v ih h =
      let a = and_two (metres e.field (decimetres q e.value)) (metric q es) (sym (metric_measures e es q v) ∙ h) in
      (told_metres q e a.0, ih a.1)

  metric_tells_at : (k : View) → view e ≡ k → (Tells q 1 es → metric q es ≡ true)
      → choose_t k (Tells q 1 es) Unit (Told q 1 e × Tells q 1 es) → metric q (e ∷ es) ≡ true
  metric_tells_at kept v ih t = metric_kept e es q v ∙ ih t
  metric_tells_at scales v ih t = metric_scales e es q v
  metric_tells_at measures v ih t = metric_measures e es q v ∙ ap₂ ◌&&◌ (metres_told q e t.0) (ih t.1)

pub tells_metric : (q : ℕ) (es : List Entry) → metric q es ≡ true → Tells q 1 es
tells_metric q [] h = tt
tells_metric q (e ∷ es) h = tells_metric_at q e es (view e) refl (tells_metric q es) h

pub metric_tells : (q : ℕ) (es : List Entry) → Tells q 1 es → metric q es ≡ true
metric_tells q [] t = metric_none q
metric_tells q (e ∷ es) t = metric_tells_at q e es (view e) refl (metric_tells q es) t

-- the scale that the normal form uses can say them
pub tells_best : (q : ℕ) (es : List Entry) → AllFair es → Tells q (best q es) es
tells_best q es f = by_test (metric q es) refl
  where
    by_test : (b : Bool) → metric q es ≡ b → Tells q (cond b 1 q) es
    by_test true h = tells_metric q es h
    by_test false h = tells_same q es f
