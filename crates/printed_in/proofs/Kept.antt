-- The start of an input is enough for its answer: 35,712 bytes of a sheet, or more. Assumes nothing.
use mathlib.Core.Path.{◌≡◌, refl, sym, ap, ◌∙◌}
use mathlib.Core.Bool.{Bool, true, false, cond, ◌&&◌}
use mathlib.Core.List.{List, [], ◌∷◌}
use mathlib.Core.Logic.{◌⊎◌, inl, inr, ⊎_elim}
use mathlib.Core.Option.{Option, some, none}
use Prim.Native.Nat.{ℕ, zero, suc, ◌+◌, ◌-◌, ◌*◌, ◌^◌, ◌≤◌, ◌<◌}
use native.Mathlib.Nat.{le_trans}
use native.Mathlib.Omega.{arith}
use borrow.Author.Tests.{leb-true, eqb-false, le-ltb}
use lib.Arith.{lt_of_le-ne}
use lib.Dec.{eqb, leb}
use lib.ListN.{length, take, drop, get_or}
use lib.Seq.{take-nil}
use Rattle.format.specs.Fields.{Field, fields, END}
use Rattle.format.specs.Rules.{paper}
use Rattle.laws.proofs.Told.{and_two}
use Rattle.pieces.specs.Numbers.{Found, digits_of, is_digit, digits_from, bounded, decimal_in, is_place, place_of, places_from, counted, sixteen_in}
use Rattle.pieces.specs.Pieces.{begins}
use Rattle.pieces.proofs.Decimals.{digit_bounds, from_digit, decimal_is, length_decimal}
use Rattle.pieces.proofs.Loops.{digits_grow}
use Rattle.pieces.proofs.Sixteens.{length_sixteen, sixteen_is}
use Rattle.sheet.specs.Rows.{crlf, heading, label_text, is_radio, field_of, entry_of}
use Rattle.sheet.specs.Reading.{Row, label_in, value_in, closed, valued, row_in, Rows, above, on_row, rows_in, sheet_in}
use Rattle.sheet.specs.Sheets.{on_sheet, imported}
use Rattle.printed_in.specs.Sheet.{line_or, in_text, TellsSheet}

-- ---- a piece of text

drop_take : (k m : ℕ) (text : List ℕ) → drop k (take m text) ≡ take (m - k) (drop k text)
drop_take zero m text = let all : m ≡ m - 0 = omega arith in ap (λ (n : ℕ). take n text) all
drop_take (suc k) zero text = let none : 0 ≡ 0 - suc k = omega arith in ap (λ (n : ℕ). take n (drop (suc k) text)) none
drop_take (suc k) (suc m) [] = sym (take-nil (suc m - suc k))
drop_take (suc k) (suc m) (c ∷ text) = drop_take k m text ∙ ap (λ (n : ℕ). take n (drop k text)) less
  where
    less : m - k ≡ suc m - suc k
    less = omega arith

begins_take : (piece text : List ℕ) (m : ℕ) → length piece ≤ m → begins piece (take m text) ≡ begins piece text
unfolding begins
begins_take [] text m h = refl
begins_take (c ∷ piece) text zero h = absurd (omega arith)
begins_take (c ∷ piece) [] (suc m) h = refl
begins_take (c ∷ piece) (d ∷ text) (suc m) h = ap (λ (b : Bool). eqb c d && b) (begins_take piece text m (omega arith))

begins_later : (piece text : List ℕ) (k m : ℕ) → k + length piece ≤ m → begins piece (drop k (take m text)) ≡ begins piece (drop k text)
begins_later piece text k m h = ap (begins piece) (drop_take k m text) ∙ begins_take piece (drop k text) (m - k) (omega arith)

-- ---- a number: of more than 20 digits it is none, whatever follows

-- v with j zeros behind it
abbrev zeros : ℕ → ℕ → ℕ
zeros zero v = v
zeros (suc j) v = zeros j (10 * v)

zeros_least : (i j v w : ℕ) → i ≤ j → v ≤ w → zeros i v ≤ zeros j w
zeros_least zero zero v w h l = l
zeros_least zero (suc j) v w h l = zeros_least zero j v (10 * w) (omega arith) (omega arith)
zeros_least (suc i) zero v w h l = absurd (omega arith)
zeros_least (suc i) (suc j) v w h l = zeros_least i j (10 * v) (10 * w) (omega arith) (omega arith)

-- the digits end within j characters, or there are so many
abbrev Either : ℕ → ℕ → Found → Found → Type 0
Either j v x y = (x ≡ y) ⊎ ((zeros j v ≤ x.value) × (zeros j v ≤ y.value))

digits_take : (text : List ℕ) (j v n : ℕ) → Either j v (digits_from v n (take j text)) (digits_from v n text)
unfolding digits_from
digits_take text zero v n = inr (omega arith, digits_grow text v n)
digits_take [] (suc j) v n = inl refl
digits_take (c ∷ text) (suc j) v n = by (is_digit c) (digits_take text j (10 * v + (c - 48)) (suc n))
  where
    w : ℕ
    w = 10 * v + (c - 48)

    end : Found
    end = record { value = v; count = n }

    by : (b : Bool) → Either j w (digits_from w (suc n) (take j text)) (digits_from w (suc n) text)
        → Either (suc j) v (cond b (digits_from w (suc n) (take j text)) end) (cond b (digits_from w (suc n) text) end)
    by true h =
        let l : zeros j (10 * v) ≤ zeros j w = zeros_least j j (10 * v) w (omega arith) (omega arith) in
        ⊎_elim (λ e. inl e) (λ g. inr (le_trans l g.0, le_trans l g.1)) h
    by false h = inl refl

none_past : (x : Found) → 2 ^ 64 ≤ x.value → bounded x ≡ none
none_past x h = rw (le-ltb x.value (2 ^ 64) h)

bounded_take : (text : List ℕ) (j v : ℕ) → 20 ≤ j → 0 < v → bounded (digits_from v 1 (take j text)) ≡ bounded (digits_from v 1 text)
bounded_take text j v h l =
    ⊎_elim (λ e. ap bounded e) (λ g. none_past _ (le_trans large g.0) ∙ sym (none_past _ (le_trans large g.1))) (digits_take text j v 1)
  where
    large : 2 ^ 64 ≤ zeros j v
    large = let least : 100000000000000000000 ≤ zeros j v = zeros_least 20 j 1 v h l in omega (arith, least)

decimal_take : (text : List ℕ) (j : ℕ) → 21 ≤ j → decimal_in (take j text) ≡ decimal_in text
unfolding decimal_in
decimal_take text zero h = absurd (omega arith)
decimal_take [] (suc j) h = refl
decimal_take (c ∷ text) (suc j) h = by (eqb c 48) (is_digit c) refl refl
  where
    zero_one : Found
    zero_one = record { value = 0; count = 1 }

    by : (p q : Bool) → eqb c 48 ≡ p → is_digit c ≡ q
        → cond p (some zero_one) (cond q (bounded (digits_from 0 0 (c ∷ take j text))) none)
        ≡ cond p (some zero_one) (cond q (bounded (digits_from 0 0 (c ∷ text))) none)
    by true q x y = refl
    by false false x y = refl
    by false true x y =
        let above : 48 < c = lt_of_le-ne (digit_bounds c y).0 (λ e. eqb-false c 48 x (sym e)) in
        ap bounded (from_digit 0 0 c (take j text) y)
        ∙ bounded_take text j (10 * 0 + (c - 48)) (omega arith) (omega arith)
        ∙ sym (ap bounded (from_digit 0 0 c text y))

places_take : (text : List ℕ) (k v j : ℕ) → k ≤ j → places_from k v (take j text) ≡ places_from k v text
unfolding places_from
places_take text zero v j h = refl
places_take text (suc k) v zero h = absurd (omega arith)
places_take [] (suc k) v (suc j) h = refl
places_take (c ∷ text) (suc k) v (suc j) h =
    ap (λ (o : Option ℕ). cond (is_place c) o none) (places_take text k (16 * v + place_of c) j (omega arith))

value_take : (f : Field) (text : List ℕ) (j : ℕ) → 21 ≤ j → value_in f (take j text) ≡ value_in f text
unfolding sixteen_in
value_take f text j h = by (is_radio f)
  where
    by : (b : Bool) → cond b (sixteen_in (take j text)) (decimal_in (take j text)) ≡ cond b (sixteen_in text) (decimal_in text)
    by true = ap (counted 16) (places_take text 16 0 j (omega arith))
    by false = decimal_take text j h

-- no value takes more than 20 characters
value_few : (f : Field) (text : List ℕ) (x : Found) → value_in f text ≡ some x → x.count ≤ 20
value_few f text x = by (is_radio f)
  where
    by : (b : Bool) → cond b (sixteen_in text) (decimal_in text) ≡ some x → x.count ≤ 20
    by true e = let w = sixteen_is text x e in omega (arith, w.count, length_sixteen x.value)
    by false e = let w = decimal_is text x e in omega (arith, w.count, length_decimal 20 x.value)

-- ---- a label takes 21 at most

abbrev short : List Field → Bool
short [] = true
short (f ∷ fs) = leb (length (label_text f)) 21 && short fs

short_fields : short fields ≡ true
unfolding label_text fields digits_of
short_fields = refl

short_END : length (label_text END) ≤ 21
unfolding label_text digits_of
short_END = omega arith

short_at : (fs : List Field) (k : ℕ) → short fs ≡ true → length (label_text (get_or fs k END)) ≤ 21
short_at [] k e = short_END
short_at (f ∷ fs) zero e = leb-true (length (label_text f)) 21 (and_two (leb (length (label_text f)) 21) (short fs) e).0
short_at (f ∷ fs) (suc k) e = short_at fs k (and_two (leb (length (label_text f)) 21) (short fs) e).1

label_take : (fs : List Field) (k : ℕ) (text : List ℕ) (m : ℕ) → short fs ≡ true → 21 ≤ m → label_in k fs (take m text) ≡ label_in k fs text
label_take [] k text m e h = refl
label_take (f ∷ fs) k text m e h =
    let b = and_two (leb (length (label_text f)) 21) (short fs) e in
    let l = leb-true (length (label_text f)) 21 b.0 in
    rw (begins_take (label_text f) text m (omega (arith, l)), label_take fs (suc k) text m b.1 h)

-- ---- a row takes 43

module _ (text : List ℕ) (m : ℕ) (h : 43 ≤ m) where
  closed_take : (k n : ℕ) (o : Option Found) → n ≤ 21 → ((x : Found) → o ≡ some x → x.count ≤ 20) → closed k n o (take m text) ≡ closed k n o text
  closed_take k n none l few = refl
  closed_take k n (some x) l few =
      let c = few x refl in
      rw (begins_later crlf text (n + x.count) m (omega (arith, c)))

  valued_take : (o : Option ℕ) → valued o (take m text) ≡ valued o text
  valued_take none = refl
  valued_take (some k) =
      let l : length (label_text (field_of k)) ≤ 21 = short_at fields k short_fields in
      let same : value_in (field_of k) (drop (length (label_text (field_of k))) (take m text)) ≡ value_in (field_of k) (drop (length (label_text (field_of k))) text)
      = ap (value_in (field_of k)) (drop_take (length (label_text (field_of k))) m text)
      ∙ value_take (field_of k) (drop (length (label_text (field_of k))) text) (m - length (label_text (field_of k))) (omega (arith, l)) in
      ap (λ (o : Option Found). closed k (length (label_text (field_of k))) o (take m text)) same
      ∙ closed_take k (length (label_text (field_of k))) (value_in (field_of k) (drop (length (label_text (field_of k))) text)) l
      (value_few (field_of k) (drop (length (label_text (field_of k))) text))

  row_take : row_in (take m text) ≡ row_in text
  unfolding row_in
  row_take = ap (λ (o : Option ℕ). valued o (take m text)) (label_take fields 0 text m short_fields (omega arith)) ∙ valued_take (label_in 0 fields text)

module _ (text : List ℕ) (r : Row) where
  closed_few : (k n : ℕ) (o : Option Found) → n ≤ 21 → ((x : Found) → o ≡ some x → x.count ≤ 20) → closed k n o text ≡ some r → r.count ≤ 43
  closed_few k n none l few e = let z : ◌≡◌ {A = ℕ} 0 1 = cc in absurd (omega arith)
  closed_few k n (some x) l few e = by (begins crlf (drop (n + x.count) text)) e
    where
      end : Row
      end = record { number = k; value = x.value; count = n + x.count + 2 }

      by : (b : Bool) → cond b (some end) none ≡ some r → r.count ≤ 43
      by true e = let c = few x refl in let same : end ≡ r = cc in rw (← same) (omega (arith, c))
      by false e = let z : ◌≡◌ {A = ℕ} 0 1 = cc in absurd (omega arith)

  valued_few : (o : Option ℕ) → valued o text ≡ some r → r.count ≤ 43
  valued_few none e = let z : ◌≡◌ {A = ℕ} 0 1 = cc in absurd (omega arith)
  valued_few (some k) e =
      closed_few k (length (label_text (field_of k))) (value_in (field_of k) (drop (length (label_text (field_of k))) text)) (short_at fields k short_fields)
      (value_few (field_of k) (drop (length (label_text (field_of k))) text))
      e

  row_few : row_in text ≡ some r → r.count ≤ 43
  unfolding row_in
  row_few e = valued_few (label_in 0 fields text) e

-- ---- so that 830 rows and a character tell all

rows_take : (left n m : ℕ) (text : List ℕ) → 43 * left + 1 ≤ m → rows_in left n (take m text) ≡ rows_in left n text
unfolding rows_in
rows_take zero n zero text h = absurd (omega arith)
rows_take (suc left) n zero text h = absurd (omega arith)
rows_take zero n (suc m) [] h = refl
rows_take zero n (suc m) (c ∷ text) h = refl
rows_take (suc left) n (suc m) [] h = refl
rows_take (suc left) n (suc m) (c ∷ text) h =
    ap (λ (o : Option Row). on_row o n (λ k. rows_in left (suc n) (drop k (take (suc m) (c ∷ text))))) (row_take (c ∷ text) (suc m) (omega arith))
    ∙ by (λ k j. rows_take left (suc n) k (drop j (c ∷ text))) (row_in (c ∷ text)) refl
  where
    by : ((k j : ℕ) → 43 * left + 1 ≤ k → rows_in left (suc n) (take k (drop j (c ∷ text))) ≡ rows_in left (suc n) (drop j (c ∷ text)))
        → (o : Option Row) → row_in (c ∷ text) ≡ o
        → on_row o n (λ k. rows_in left (suc n) (drop k (take (suc m) (c ∷ text)))) ≡ on_row o n (λ k. rows_in left (suc n) (drop k (c ∷ text)))
    by rest none e = refl
    by rest (some r) e =
        let few = row_few (c ∷ text) r e in
        ap (above (entry_of r.number r.value))
        (ap (rows_in left (suc n)) (drop_take r.count (suc m) (c ∷ text))
        ∙ rest (suc m - r.count) r.count (omega (arith, few)))

sheet_take : (text : List ℕ) (m : ℕ) → 35712 ≤ m → sheet_in (take m text) ≡ sheet_in text
unfolding sheet_in heading
sheet_take text m h =
    rw (begins_take heading text m (omega arith), drop_take 21 m text, rows_take 830 0 (m - 21) (drop 21 text) (omega arith))

sheet_kept : (input : List ℕ) (m : ℕ) → 35712 ≤ m → in_text (take m input) ≡ in_text input
unfolding in_text imported
sheet_kept input m h = ap (λ (r : Rows). line_or (on_sheet paper r)) (sheet_take input m h)

pub in_kept : (m : ℕ) → 35712 ≤ m → TellsSheet m
in_kept m h = record { tells = λ input. sheet_kept input m h }
