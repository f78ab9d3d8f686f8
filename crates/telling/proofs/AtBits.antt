-- Entries that stand at a bit of the bytes, and the metric test of one of them. Assumes nothing.
use mathlib.Core.Bool.{Bool, true, false, cond, ◌&&◌}
use mathlib.Core.List.{List, [], ◌∷◌, ◌++◌, append_assoc}
use mathlib.Core.Path.{◌≡◌, refl, sym, ap, ◌∙◌}
use Prim.Native.Nat.{ℕ, ◌+◌, ◌%◌, ◌^◌, ◌≤◌, ◌<◌}
use native.Mathlib.Omega.{arith}
use lib.Dec.{T, eqb, ltb}
use lib.ListN.{length, take, drop, length-append, take-append-drop}
use lib.Seq.{take_at, drop_at, drop-drop}
use Rattle.bits.specs.Bits.{digits, bits_of, value_of, filled}
use Rattle.bits.specs.Ahead.{number_at}
use Rattle.bits.proofs.Bytes.{filled_take}
use Rattle.bits.proofs.Digits.{length_digits, value_of_digits}
use Rattle.format.specs.Fields.{Field, Sense}
use Rattle.format.specs.Fields.Sense.{plain, scale, distance, text_length}
use Rattle.format.specs.Telegrams.{Entry, bits_in, bits, bit_count}
use Rattle.distance.specs.Steps.{step, decimetres, steps}
use Rattle.format.specs.Normal.{view, metres, metric}
use Rattle.format.specs.Normal.View.{kept, measures}
use Rattle.laws.proofs.Round.{all_append}
use Rattle.laws.proofs.Told.{AllFair}
use Rattle.laws.proofs.Views.{metric_kept, metric_measures}
use Rattle.telling.proofs.Once.Phase.{behind}
use Rattle.telling.proofs.Scales.{same}

-- ---- entries that stand at a bit of the bytes s

abbrev pub AtBit : List ℕ → ℕ → List Entry → Type 0
AtBit s x es = (ys : List ℕ) × (drop x (bits_of s) ≡ bits es ++ ys)

abbrev pub value_there : List ℕ → Field → ℕ → ℕ
value_there s f x = number_at s f.width x

module _ (s : List ℕ) (x : ℕ) (e : Entry) (es : List Entry) (h : AtBit s x (e ∷ es)) where
  pub value_there_lem : e.value < 2 ^ e.field.width → e.value ≡ value_there s e.field x
  unfolding bits_in
  value_there_lem small =
      let w = e.field.width in
      let d = digits w e.value in
      let there = h.1 ∙ append_assoc d (bits es) h.0 in
      let room : w ≤ length (d ++ (bits es ++ h.0)) = rw (length-append d (bits es ++ h.0), length_digits w e.value) (omega arith) in
      sym (value_of_digits w e.value small)
      ∙ ap value_of
      (sym (ap (filled w) there ∙ filled_take w (d ++ (bits es ++ h.0)) room ∙ take_at d (bits es ++ h.0) w (length_digits w e.value)))

  pub next_there : AtBit s (x + e.field.width) es
  unfolding bits_in
  next_there =
      let w = e.field.width in
      let d = digits w e.value in (
        h.0,
        sym (drop-drop w x (bits_of s))
            ∙ ap (drop w) (h.1 ∙ append_assoc d (bits es) h.0)
            ∙ drop_at d (bits es ++ h.0) w (length_digits w e.value),
      )

-- the first of them
pub at_front : (s : List ℕ) (x : ℕ) (xs ys : List Entry) → AtBit s x (xs ++ ys) → AtBit s x xs
at_front s x xs ys h =
    (bits ys ++ h.0, h.1 ∙ ap (λ (l : List ℕ). l ++ h.0) (all_append bits_in xs ys) ∙ append_assoc (bits xs) (bits ys) h.0)

-- and those behind them
pub at_behind : (s : List ℕ) (x : ℕ) (xs ys : List Entry) → AtBit s x (xs ++ ys) → AtBit s (x + bit_count xs) ys
at_behind s x [] ys h = let e : x ≡ x + 0 = omega arith in rw e at h
at_behind s x (e ∷ xs) ys h =
    let w = e.field.width in
    let k : x + w + bit_count xs ≡ x + (w + bit_count xs) = omega arith in
    rw k at (at_behind s (x + w) xs ys (next_there s x e (xs ++ ys) h))

-- all of them
pub at_all : (s : List ℕ) (n : ℕ) (es : List Entry) → take n (bits_of s) ≡ bits es → AtBit s 0 es
at_all s n es h = (drop n (bits_of s), sym (take-append-drop n (bits_of s)) ∙ ap (λ (l : List ℕ). l ++ drop n (bits_of s)) h)

pub fair_front : (xs ys : List Entry) → AllFair (xs ++ ys) → AllFair xs
fair_front [] ys f = tt
fair_front (x ∷ xs) ys f = (f.0, fair_front xs ys f.1)

-- ---- one field

-- v steps of the scale q are a whole number of metres that fits w bits
abbrev pub whole_metres : ℕ → ℕ → ℕ → Bool
whole_metres q w v = eqb (decimetres q v % step 1) 0 && ltb (steps 1 (decimetres q v)) (2 ^ w)

-- what a field behind the scale asks of its value
abbrev pub metric_sense : ℕ → Field → Sense → ℕ → Bool
metric_sense q f (plain r) v = true
metric_sense q f scale v = true
metric_sense q f distance v = whole_metres q f.width v
metric_sense q f text_length v = cond (eqb v 32767) true (metres f (decimetres q v))

abbrev pub metric_field : ℕ → Field → ℕ → Bool
metric_field q f v = metric_sense q f f.sense v

pub and_true : (b : Bool) → (b && true) ≡ b
and_true true = refl
and_true false = refl

pub metric_field_lem : (q : ℕ) (e : Entry) (es : List Entry) → T (same behind e.field.sense)
    → metric q (e ∷ es) ≡ metric_field q e.field e.value && metric q es
metric_field_lem q e es h = by_sense e.field.sense refl h
  where
    limited : (b : Bool) → view e ≡ cond b kept measures
        → metric q (e ∷ es) ≡ cond b true (metres e.field (decimetres q e.value)) && metric q es
    limited true i = metric_kept e es q i
    limited false i = metric_measures e es q i

    by_sense : (k : Sense) → e.field.sense ≡ k → T (same behind k) → metric q (e ∷ es) ≡ metric_sense q e.field k e.value && metric q es
    by_sense (plain r) i g = metric_kept e es q (rw i)
    by_sense scale i g = absurd g
    by_sense distance i g =
        let w = whole_metres q e.field.width e.value in
        let m : metres e.field (decimetres q e.value) ≡ w = rw i (and_true w) in
        metric_measures e es q (rw i) ∙ ap (λ (b : Bool). b && metric q es) m
    by_sense text_length i g = limited (eqb e.value 32767) (rw i)
