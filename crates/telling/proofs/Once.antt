-- A packet's normal form, where it has one scale at most, no distance before that and no scale behind it. Assumes nothing.
use mathlib.Core.Bool.{Bool, true, false, cond}
use mathlib.Core.List.{List, [], ◌∷◌, ◌++◌, map}
use mathlib.Core.Path.{◌≡◌, refl, sym, ap, ◌∙◌}
use Prim.Native.Nat.{ℕ}
use native.Mathlib.Omega.{arith}
use Rattle.format.specs.Telegrams.{Entry}
use Rattle.distance.specs.Steps.{decimetres, steps}
use Rattle.format.specs.Normal.{View, view, choose, metric, best, put, normal_under, normal}
use Rattle.format.specs.Normal.View.{kept, scales, measures}
use Rattle.laws.proofs.Views.{normal_none, normal_kept, normal_scales, normal_measures}
use Rattle.laws.proofs.Told.{choose_t}
use Rattle.telling.proofs.Under.{Led, InMetres, best_metres, normal_metres}

-- ---- entries by their scale

-- in the telegram's header; in a packet ahead of its scale; and behind that
pub data Phase : Type 0 where
  heading ahead behind : Phase

-- Fields that count as they were sent, wherever; a scale only ahead, after which one is behind it; a distance only behind it.
abbrev pub Shape : Phase → List Entry → Type 0
Shape k [] = Unit
Shape k (e ∷ es) = choose_t (view e) (Shape k es) ((k ≡ ahead) × Shape behind es) ((k ≡ behind) × Shape k es)

-- no distance stands before the scale
pub shape_led : (es : List Entry) → Shape ahead es → Led es
shape_led [] s = tt
shape_led (e ∷ es) s = by_view (view e) (shape_led es) s
  where
    by_view : (k : View) → (Shape ahead es → Led es)
        → choose_t k (Shape ahead es) ((ahead ≡ ahead) × Shape behind es) ((ahead ≡ behind) × Shape ahead es) → choose_t k (Led es) Unit ⊥
    by_view kept ih i = ih i
    by_view scales ih i = tt
    by_view measures ih i = let h = i.0 in let z : ◌≡◌ {A = ℕ} 0 1 = cc in absurd (omega arith)

-- ---- behind the scale

-- a distance converted, everything else itself
abbrev pub retold : ℕ → ℕ → Entry → Entry
retold q r e = put e (choose (view e) e.value e.value (steps r (decimetres q e.value)))

pub told_behind : (q r : ℕ) (es : List Entry) → Shape behind es → normal_under q r es ≡ map (retold q r) es
told_behind q r [] s = normal_none q r
told_behind q r (e ∷ es) s = by_view (view e) refl (told_behind q r es) s
  where
    by_view : (k : View) → view e ≡ k → (Shape behind es → normal_under q r es ≡ map (retold q r) es)
        → choose_t k (Shape behind es) ((behind ≡ ahead) × Shape behind es) ((behind ≡ behind) × Shape behind es)
        → normal_under q r (e ∷ es) ≡ map (retold q r) (e ∷ es)
    by_view kept h ih i = rw (normal_kept e es q r h, ih i, h)
    by_view scales h ih i = let g = i.0 in let z : ◌≡◌ {A = ℕ} 0 1 = cc in absurd (omega arith)
    by_view measures h ih i = rw (normal_measures e es q r h, ih i.1, h)

-- it has no scale that is not that of metres
pub behind_metres : (es : List Entry) → Shape behind es → InMetres es
behind_metres [] s = tt
behind_metres (e ∷ es) s = by_view (view e) (behind_metres es) s
  where
    by_view : (k : View) → (Shape behind es → InMetres es)
        → choose_t k (Shape behind es) ((behind ≡ ahead) × Shape behind es) ((behind ≡ behind) × Shape behind es)
        → (k ≡ scales → e.value ≡ 1) × InMetres es
    by_view kept ih i = ((λ h. let z : ◌≡◌ {A = ℕ} 0 1 = cc in absurd (omega arith)), ih i)
    by_view scales ih i = let g = i.0 in let z : ◌≡◌ {A = ℕ} 0 1 = cc in absurd (omega arith)
    by_view measures ih i = ((λ h. let z : ◌≡◌ {A = ℕ} 0 1 = cc in absurd (omega arith)), ih i.1)

-- ---- before the scale

-- every field counts as it was sent
abbrev pub Bare : List Entry → Type 0
Bare [] = Unit
Bare (e ∷ es) = (view e ≡ kept) × Bare es

pub bare_metres : (es : List Entry) → Bare es → InMetres es
bare_metres [] b = tt
bare_metres (e ∷ es) b =
    let k = b.0 in
    ((λ h. let z : ◌≡◌ {A = ℕ} 0 1 = cc in absurd (omega arith)), bare_metres es b.1)

pub normal_front : (q r : ℕ) (front es : List Entry) → Bare front → normal_under q r (front ++ es) ≡ front ++ normal_under q r es
normal_front q r [] es b = refl
normal_front q r (e ∷ front) es b =
    normal_kept e (front ++ es) q r b.0 ∙ ap (λ (x : List Entry). e ∷ x) (normal_front q r front es b.1)

pub heading_bare : (es : List Entry) → Shape heading es → Bare es
heading_bare [] s = tt
heading_bare (e ∷ es) s = by_view (view e) (heading_bare es) s
  where
    by_view : (k : View) → (Shape heading es → Bare es)
        → choose_t k (Shape heading es) ((heading ≡ ahead) × Shape behind es) ((heading ≡ behind) × Shape heading es) → (k ≡ kept) × Bare es
    by_view kept ih i = (refl, ih i)
    by_view scales ih i = let g = i.0 in let z : ◌≡◌ {A = ℕ} 0 1 = cc in absurd (omega arith)
    by_view measures ih i = let g = i.0 in let z : ◌≡◌ {A = ℕ} 0 1 = cc in absurd (omega arith)

-- ---- the two sorts of packets

-- a packet that has no scale, and so no distance; or one with its scale e, what stands before it and what behind it
pub data Sorted : List Entry → Type 0 where
  bare : {es : List Entry} → Bare es → Sorted es
  scaled : (front : List Entry) (e : Entry) (body : List Entry) → Bare front → view e ≡ scales → Shape behind body → Sorted (front ++ e ∷ body)

sorted_more : {es : List Entry} (e : Entry) → view e ≡ kept → Sorted es → Sorted (e ∷ es)
sorted_more {es} e h (bare b) = bare {es = e ∷ es} (h, b)
sorted_more e h (scaled front f body b g s) = scaled (e ∷ front) f body (h, b) g s

pub sorted : (es : List Entry) → Shape ahead es → Sorted es
sorted [] s = bare tt
sorted (e ∷ es) s = by_view (view e) refl (sorted es) s
  where
    by_view : (k : View) → view e ≡ k → (Shape ahead es → Sorted es)
        → choose_t k (Shape ahead es) ((ahead ≡ ahead) × Shape behind es) ((ahead ≡ behind) × Shape ahead es) → Sorted (e ∷ es)
    by_view kept h ih i = sorted_more e h (ih i)
    by_view scales h ih i = scaled [] e es tt h i.1
    by_view measures h ih i = let g = i.0 in let z : ◌≡◌ {A = ℕ} 0 1 = cc in absurd (omega arith)

-- ---- the normal form of a packet

-- without a scale it is itself
pub packet_bare : (es : List Entry) → Bare es → normal es ≡ es
packet_bare es b = normal_metres 0 es (bare_metres es b)

module _ (front : List Entry) (e : Entry) (body : List Entry) (b : Bare front) (h : view e ≡ scales) (s : Shape behind body) where
  abbrev q : ℕ
  q = e.value

  packet_best : (x : ℕ) → best q body ≡ x → normal (front ++ e ∷ body) ≡ front ++ put e x ∷ map (retold q x) body
  packet_best x i =
      normal_front 0 0 front (e ∷ body) b
      ∙ ap (λ (l : List Entry). front ++ l) (normal_scales e body 0 0 h ∙ rw (i, told_behind q x body s))

  packet_same : best q body ≡ q → normal (front ++ e ∷ body) ≡ front ++ e ∷ body
  packet_same i =
      packet_best q i
      ∙ ap (λ (l : List Entry). front ++ e ∷ l) (sym (told_behind q q body s) ∙ normal_metres q body (behind_metres body s))

  -- in metres it is itself
  pub packet_metres_lem : q ≡ 1 → normal (front ++ e ∷ body) ≡ front ++ e ∷ body
  packet_metres_lem i = packet_same (best_metres q body i)

  -- where every distance is whole metres that fit: Q_SCALE 1, each distance converted, everything else itself
  pub packet_metric : metric q body ≡ true → normal (front ++ e ∷ body) ≡ front ++ put e 1 ∷ map (retold q 1) body
  packet_metric m = packet_best 1 (ap (λ (x : Bool). cond x 1 q) m)

  -- otherwise it is itself
  pub packet_stays : metric q body ≡ false → normal (front ++ e ∷ body) ≡ front ++ e ∷ body
  packet_stays m = packet_same (ap (λ (x : Bool). cond x 1 q) m)
