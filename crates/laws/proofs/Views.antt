-- One turn of what is said, of the decision for metres and of the normal form, for each view of the entry in front; and what the
-- normal form leaves as it is. Assumes nothing.
use mathlib.Core.Bool.{true, ◌&&◌}
use mathlib.Core.List.{List, [], ◌∷◌, ◌++◌, map}
use mathlib.Core.Path.{◌≡◌, refl, ap}
use Prim.Native.Nat.{ℕ, suc, ◌+◌}
use lib.ListN.{length}
use Rattle.format.specs.Fields.{Field}
use Rattle.format.specs.Telegrams.{Entry, places, bit_count}
use Rattle.distance.specs.Steps.{decimetres, steps}
use Rattle.format.specs.Normal.{choose, view, says_under, metres, metric, best, put, normal_under}
use Rattle.format.specs.Normal.Said.{sent, apart, long}
use Rattle.format.specs.Normal.View.{kept, scales, measures}

module _ (e : Entry) (es : List Entry) where
  -- ---- an entry that counts as it was sent

  pub says_kept : (q : ℕ) → view e ≡ kept → says_under q (e ∷ es) ≡ sent e.field e.value ∷ says_under q es
  unfolding says_under
  says_kept q h = rw h

  pub metric_kept : (q : ℕ) → view e ≡ kept → metric q (e ∷ es) ≡ metric q es
  unfolding metric
  metric_kept q h = rw h

  pub normal_kept : (q r : ℕ) → view e ≡ kept → normal_under q r (e ∷ es) ≡ e ∷ normal_under q r es
  unfolding normal_under
  normal_kept q r h = rw h

  -- ---- a scale

  pub says_scales : (q : ℕ) → view e ≡ scales → says_under q (e ∷ es) ≡ apart e.field ∷ says_under e.value es
  unfolding says_under
  says_scales q h = rw h

  pub metric_scales : (q : ℕ) → view e ≡ scales → metric q (e ∷ es) ≡ true
  unfolding metric
  metric_scales q h = rw h

  pub normal_scales : (q r : ℕ) → view e ≡ scales
      → normal_under q r (e ∷ es) ≡ put e (best e.value es) ∷ normal_under e.value (best e.value es) es
  unfolding normal_under
  normal_scales q r h = rw h

  -- ---- a distance

  pub says_measures : (q : ℕ) → view e ≡ measures
      → says_under q (e ∷ es) ≡ long e.field (decimetres q e.value) ∷ says_under q es
  unfolding says_under
  says_measures q h = rw h

  pub metric_measures : (q : ℕ) → view e ≡ measures
      → metric q (e ∷ es) ≡ metres e.field (decimetres q e.value) && metric q es
  unfolding metric
  metric_measures q h = rw h

  pub normal_measures : (q r : ℕ) → view e ≡ measures
      → normal_under q r (e ∷ es) ≡ put e (steps r (decimetres q e.value)) ∷ normal_under q r es
  unfolding normal_under
  normal_measures q r h = rw h

-- ---- after the last entry

pub metric_none : (q : ℕ) → metric q [] ≡ true
unfolding metric
metric_none q = refl

pub normal_none : (q r : ℕ) → normal_under q r [] ≡ []
unfolding normal_under
normal_none q r = refl

-- ---- "All other fields, the order and the lengths stay"

pub fields_normal : (q r : ℕ) (es : List Entry) → map (λ (e : Entry). e.field) (normal_under q r es) ≡ map (λ (e : Entry). e.field) es
unfolding normal_under
fields_normal q r [] = refl
fields_normal q r (e ∷ es) = ap (λ (l : List Field). e.field ∷ l) (fields_normal (choose (view e) q e.value q) (choose (view e) r (best e.value es) r) es)

pub places_normal : (q r at : ℕ) (es : List Entry) → places at (normal_under q r es) ≡ places at es
unfolding normal_under
places_normal q r at [] = refl
places_normal q r at (e ∷ es) = ap (λ (l : List ℕ). at ∷ l) (places_normal (choose (view e) q e.value q) (choose (view e) r (best e.value es) r) (at + e.field.width) es)

pub bit_count_normal : (q r : ℕ) (es : List Entry) → bit_count (normal_under q r es) ≡ bit_count es
unfolding normal_under
bit_count_normal q r [] = refl
bit_count_normal q r (e ∷ es) = ap (λ (n : ℕ). e.field.width + n) (bit_count_normal (choose (view e) q e.value q) (choose (view e) r (best e.value es) r) es)

-- ---- "each scaled packet uses Q_SCALE 1 if ..; otherwise it keeps its scale"

-- the normal form with a scale e in it: as many entries before it, then e with the scale that is best for what comes after
pub record Scaled (ds : List Entry) (e : Entry) (es fs : List Entry) : Type 0 where
  pub front : List Entry
  pub as_many : length front ≡ length ds
  pub is : fs ≡ front ++ put e (best e.value es) ∷ normal_under e.value (best e.value es) es

further : {ds es fs : List Entry} {e : Entry} (c d : Entry) → Scaled ds e es fs → Scaled (c ∷ ds) e es (d ∷ fs)
further c d t = record { front = d ∷ t.front; as_many = ap suc t.as_many; is = ap (λ (l : List Entry). d ∷ l) t.is }

pub normal_scaled : (q r : ℕ) (ds : List Entry) (e : Entry) (es : List Entry) → view e ≡ scales
    → Scaled ds e es (normal_under q r (ds ++ e ∷ es))
unfolding normal_under
normal_scaled q r [] e es h = record { front = []; as_many = refl; is = normal_scales e es q r h }
normal_scaled q r (d ∷ ds) e es h = further d _ (normal_scaled (choose (view d) q d.value q) (choose (view d) r (best d.value (ds ++ e ∷ es)) r) ds e es h)
