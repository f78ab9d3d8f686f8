-- The normal form says the same, and that of a run is a run. Assumes nothing.
use mathlib.Core.Bool.{Bool, true, false, cond}
use mathlib.Core.List.{List, [], ◌∷◌}
use mathlib.Core.Path.{◌≡◌, refl, ◌∙◌}
use Prim.Native.Nat.{ℕ, ◌^◌, ◌<◌, ◌≤◌}
use native.Mathlib.Omega.{arith}
use lib.Pow.{pow_mono}
use Rattle.format.specs.Rules.{State, Terms, field}
use Rattle.format.specs.Telegrams.{Entry, entry, Run, Fits}
use Rattle.format.specs.Telegrams.Run.{last, more}
use Rattle.distance.specs.Steps.{decimetres, steps}
use Rattle.format.specs.Normal.{View, view, choose, says_under, metric, best, put, normal_under}
use Rattle.format.specs.Normal.View.{kept, scales, measures}
use Rattle.laws.proofs.Sources.{width_positive, width_named}
use Rattle.laws.proofs.Views.{says_kept, says_scales, says_measures, normal_kept, normal_scales, normal_measures}
use Rattle.laws.proofs.Exchange.{Alike, put_entry, distance_alike, scale_alike, scale_still}
use Rattle.laws.proofs.Told.{Fair, AllFair, fair, Told, told_steps, Tells, choose_t, tells_best}

-- ---- it says the same

module _ (q r : ℕ) (e : Entry) (es : List Entry) (f : AllFair es)
    (ih : (q2 r2 : ℕ) → Tells q2 r2 es → says_under r2 (normal_under q2 r2 es) ≡ says_under q2 es) where
  says_normal_at : (k : View) → view e ≡ k → choose_t k (Tells q r es) Unit (Told q r e × Tells q r es)
      → says_under r (normal_under q r (e ∷ es)) ≡ says_under q (e ∷ es)
  says_normal_at kept h t =
      rw (normal_kept e es q r h, says_kept e (normal_under q r es) r h, says_kept e es q h, ih q r t)
  says_normal_at scales h t =
      let v = e.value in
      let b = best v es in
      rw (
        normal_scales e es q r h,
        says_scales (put e b) (normal_under v b es) r (scale_still e.field.sense b v h),
        says_scales e es q h,
        ih v b (tells_best v es f),
      )
  says_normal_at measures h t =
      rw (
        normal_measures e es q r h,
        told_steps t.0,
        says_measures (put e t.0.count) (normal_under q r es) r t.0.finite,
        says_measures e es q h,
        ih q r t.1,
        t.0.exact,
      )

pub says_normal : (q r : ℕ) (es : List Entry) → AllFair es → Tells q r es → says_under r (normal_under q r es) ≡ says_under q es
unfolding says_under normal_under
says_normal q r [] f t = refl
says_normal q r (e ∷ es) f t = says_normal_at q r e es f.1 (λ q2 r2. says_normal q2 r2 es f.1) (view e) refl t

-- ---- it is accepted

-- another value at a state: it fits too, has the same name, and the same comes after it
record Swap (p : Terms) (s : State) (v u : ℕ) : Type 0 where
  fits : Fits s u
  alike : Alike p s v u

cond_case : (P : ℕ → Type 0) (b : Bool) (v : ℕ) → P 1 → P v → P (cond b 1 v)
cond_case P true v h k = h
cond_case P false v h k = k

module _ (p : Terms) (q r : ℕ) (s : State) (v : ℕ) (es : List Entry) where
  swap : Fits s v → Fair (entry s v) → (k : View) → view (entry s v) ≡ k
      → choose_t k (Tells q r es) Unit (Told q r (entry s v) × Tells q r es)
      → Swap p s v (choose k v (best v es) (steps r (decimetres q v)))
  swap f g kept h t = record { fits = f; alike = record { name = refl; same = refl } }
  swap f g scales h t =
      let w = (field s).width in
      let known : v ≤ 2 = g.known h in
      let two : 2 ^ 1 ≤ 2 ^ w = pow_mono (width_positive (field s)) in
      record {
        fits = record { small = cond_case (λ (u : ℕ). u < 2 ^ w) (metric v es) v (omega arith) f.small; room = f.room };
        alike = scale_alike p s v (best v es) h (cond_case (λ (u : ℕ). u ≤ 2) (metric v es) v (omega arith) known) known;
      }
  swap f g measures h t =
      rw (told_steps t.0)
      (record {
        fits = record { small = rw (width_named s.todo v) at t.0.small; room = f.room };
        alike = distance_alike p s v t.0.count h;
      })

  -- the scales after it can tell what follows
  pub tells_next : AllFair es → (k : View) → choose_t k (Tells q r es) Unit (Told q r (entry s v) × Tells q r es)
      → Tells (choose k q v q) (choose k r (best v es) r) es
  tells_next f kept t = t
  tells_next f scales t = tells_best v es f
  tells_next f measures t = t.1

pub run_normal : {p : Terms} {s : State} {es : List Entry} → Run p s es → (q r : ℕ) → Tells q r es → Run p s (normal_under q r es)
unfolding normal_under
run_normal {p} (last {s = s} {v = v} f e) q r t =
    let w = swap p q r s v [] f (fair (last f e)).0 (view (entry s v)) refl t in
    rw (put_entry w.alike) (last w.fits (w.alike.same ∙ e))
run_normal {p} (more {s = s} {v = v} {es = es} f e l) q r t =
    let w = swap p q r s v es f (fair (more f e l)).0 (view (entry s v)) refl t in
    rw (put_entry w.alike)
    (more w.fits (w.alike.same ∙ e) (run_normal l _ _ (tells_next p q r s v es (fair l) (view (entry s v)) t)))
