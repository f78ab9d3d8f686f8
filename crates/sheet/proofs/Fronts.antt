-- A row at the front of a text, by the tests that the code makes. Assumes nothing.
use Rattle.std.specs.Prelude.{Some, None, ℕ}
use mathlib.Core.Path.{◌≡◌, refl, sym, ap, ◌∙◌}
use mathlib.Core.Bool.{Bool, true, false, cond, ◌&&◌}
use mathlib.Core.List.{List, [], ◌∷◌, ◌++◌}
use mathlib.Core.Option.{Option, some, none}
use Prim.Native.Nat.{ℕ, suc, ◌+◌, ◌≤◌, ◌<◌}
use native.Mathlib.Numerals.{add-one}
use native.Mathlib.Omega.{arith}
use lib.Dec.{eqb}
use lib.ListN.{length, drop, length-append, length-drop, drop_of_length-le}
use lib.Seq.{drop-cons, drop-drop}
use Rattle.bits.proofs.Pairs.{held_both}
use Rattle.pieces.specs.Pieces.{begins}
use Rattle.pieces.specs.Numbers.{Found, read_at}
use Rattle.pieces.proofs.Starts.{begins_is}
use Rattle.format.specs.Fields.{fields}
use Rattle.sheet.specs.Rows.{crlf, label_text, field_of}
use Rattle.sheet.specs.Reading.{Row, row, label_in, value_in, closed, valued, row_in}
use Rattle.sheet.specs.Steps.{row_at, Labelled}
use Rattle.sheet.proofs.Table.{length_fields}
use Rattle.std.specs.Prelude as code

-- a text that begins with a piece from at on has room for it
pub begins_fits : (piece text : List ℕ) (at : ℕ) → begins piece (drop at text) ≡ true → 1 ≤ length piece → at + length piece ≤ length text
begins_fits piece text at e h =
    let l : length (drop at text) ≡ length piece + length (drop (length piece) (drop at text)) =
    ap length (begins_is piece (drop at text) e) ∙ length-append piece (drop (length piece) (drop at text)) in
    omega (arith, l, length-drop at text)

-- a text that does not begin with a piece does not begin with a longer one
pub begins_longer : (piece more text : List ℕ) → begins piece text ≡ false → begins (piece ++ more) text ≡ false
unfolding begins
begins_longer [] more text e = cc
begins_longer (c ∷ piece) more [] e = refl
begins_longer (c ∷ piece) more (d ∷ text) e = by (eqb c d) e (begins_longer piece more text)
  where
    by : (b : Bool) → (b && begins piece text) ≡ false → (begins piece text ≡ false → begins (piece ++ more) text ≡ false)
        → (b && begins (piece ++ more) text) ≡ false
    by true z ih = ih z
    by false z ih = refl

-- ---- which label

module _ (text : List ℕ) where
  pub label_next : (k : ℕ) → k < 72
      → label_in k (drop k fields) text ≡ cond (begins (label_text (field_of k)) text) (some k) (label_in (k + 1) (drop (k + 1) fields) text)
  label_next k h =
      ap (λ (l : List _). label_in k l text) (drop-cons fields k _ (rw length_fields h))
      ∙ ap (λ (n : ℕ). cond (begins (label_text (field_of k)) text) (some k) (label_in n (drop n fields) text)) (sym (add-one k))

  -- the loop's invariant: no field before k
  abbrev pub Sought : ℕ → Type 0
  Sought k = (k ≤ 72) × (label_in 0 fields text ≡ label_in k (drop k fields) text)

  pub sought_on : (k : ℕ) → k < 72 → Sought k → begins (label_text (field_of k)) text ≡ false → Sought (k + 1)
  sought_on k h s e = (omega arith, s.1 ∙ label_next k h ∙ rw e)

  pub found_at : (k : ℕ) → k < 72 → Sought k → begins (label_text (field_of k)) text ≡ true → Labelled text (Some k)
  found_at k h s e = record { is = s.1 ∙ label_next k h ∙ rw e; stands = (h, e) }

  pub found_none : (k : ℕ) → 72 ≤ k → Sought k → Labelled text None
  found_none k h s =
      record { is = s.1 ∙ ap (λ (l : List _). label_in k l text) (drop_of_length-le fields {i = k} (rw length_fields h)); stands = tt }

-- ---- the row

module _ (text : List ℕ) (at : ℕ) where
  pub row_nameless : Labelled (drop at text) None → row_at at (row_in (drop at text)) ≡ None
  unfolding row_in
  row_nameless l = ap (λ (x : Option ℕ). row_at at (valued x (drop at text))) l.is

  module _ (k : ℕ) (l : Labelled (drop at text) (Some k)) where
    abbrev pub size : ℕ
    size = length (label_text (field_of k))

    row_is : row_in (drop at text) ≡ closed k size (value_in (field_of k) (drop (at + size) text)) (drop at text)
    unfolding row_in
    row_is =
        ap (λ (x : Option ℕ). valued x (drop at text)) l.is
        ∙ ap (λ (x : List ℕ). closed k size (value_in (field_of k) x) (drop at text)) (drop-drop size at text)

    module _ (r : code.Option (ℕ × ℕ)) (e : r ≡ read_at (at + size) (value_in (field_of k) (drop (at + size) text))) where
      pub row_valueless : r ≡ None → row_at at (row_in (drop at text)) ≡ None
      row_valueless n = by (value_in (field_of k) (drop (at + size) text)) refl (sym e ∙ n)
        where
          by : (x : Option Found) → value_in (field_of k) (drop (at + size) text) ≡ x → read_at (at + size) x ≡ None → row_at at (row_in (drop at text)) ≡ None
          by none q z = ap (row_at at) row_is ∙ ap (λ (x : Option Found). row_at at (closed k size x (drop at text))) q
          by (some x) q z = let w : ◌≡◌ {A = ℕ} 0 1 = cc in absurd (omega arith)

      -- a value v that ends at end
      pub record Valued (v end : ℕ) : Type 0 where
        pub number : Found
        pub is : value_in (field_of k) (drop (at + size) text) ≡ some number
        pub value : v ≡ number.value
        pub ends : end ≡ at + size + number.count

      pub valued_at : {v end : ℕ} → r ≡ Some (v, end) → Valued v end
      valued_at {v} {end} n = by (value_in (field_of k) (drop (at + size) text)) refl (sym e ∙ n)
        where
          by : (x : Option Found) → value_in (field_of k) (drop (at + size) text) ≡ x → read_at (at + size) x ≡ Some (v, end) → Valued v end
          by none q z = let w : ◌≡◌ {A = ℕ} 0 1 = cc in absurd (omega arith)
          by (some x) q z =
              let h = held_both x.value v (at + size + x.count) end z in
              record { number = x; is = q; value = sym h.0; ends = sym h.1 }

      module _ {v end : ℕ} (y : Valued v end) where
        behind : drop (size + y.number.count) (drop at text) ≡ drop end text
        behind =
            let here : at + (size + y.number.count) ≡ end = omega (arith, y.ends) in
            drop-drop (size + y.number.count) at text ∙ ap (λ (m : ℕ). drop m text) here

        row_closed : (b : Bool) → begins crlf (drop end text) ≡ b
            → row_in (drop at text) ≡ cond b (some (row k v (size + y.number.count + 2))) none
        row_closed b q =
            row_is ∙ ap (λ (x : Option Found). closed k size x (drop at text)) y.is ∙ rw (behind, q, ← y.value)

        pub row_open : begins crlf (drop end text) ≡ false → row_at at (row_in (drop at text)) ≡ None
        row_open q = ap (row_at at) (row_closed false q)

        pub row_whole : begins crlf (drop end text) ≡ true → row_at at (row_in (drop at text)) ≡ Some (k, v, end + 2)
        row_whole q =
            let here : at + (size + y.number.count + 2) ≡ end + 2 = omega (arith, y.ends) in
            ap (row_at at) (row_closed true q) ∙ ap (λ (e : ℕ). Some (k, v, e)) here

-- ---- a field's number is one of 72

label_in_lem : (j : ℕ) (fs : List _) (text : List ℕ) (k : ℕ) → label_in j fs text ≡ some k → k < j + length fs
label_in_lem j [] text k e = let w : ◌≡◌ {A = ℕ} 0 1 = cc in absurd (omega arith)
label_in_lem j (f ∷ fs) text k e = by (begins (label_text f) text) (label_in_lem (suc j) fs text k) e
  where
    by : (b : Bool) → (label_in (suc j) fs text ≡ some k → k < suc j + length fs) → cond b (some j) (label_in (suc j) fs text) ≡ some k
        → k < j + suc (length fs)
    by true ih z = let s : j ≡ k = cc in omega arith
    by false ih z = omega (arith, ih z)

pub row_number : (text : List ℕ) (r : Row) → row_in text ≡ some r → r.number < 72
unfolding row_in
row_number text r e = by (label_in 0 fields text) refl e
  where
    closed_number : (k n : ℕ) (x : Option Found) → closed k n x text ≡ some r → r.number ≡ k
    closed_number k n none z = let w : ◌≡◌ {A = ℕ} 0 1 = cc in absurd (omega arith)
    closed_number k n (some x) z = on (begins crlf (drop (n + x.count) text)) z
      where
        on : (b : Bool) → cond b (some (row k x.value (n + x.count + 2))) none ≡ some r → r.number ≡ k
        on true z = let s : row k x.value (n + x.count + 2) ≡ r = cc in ap (λ (y : Row). y.number) (sym s)
        on false z = let w : ◌≡◌ {A = ℕ} 0 1 = cc in absurd (omega arith)

    by : (o : Option ℕ) → label_in 0 fields text ≡ o → valued o text ≡ some r → r.number < 72
    by none q z = let w : ◌≡◌ {A = ℕ} 0 1 = cc in absurd (omega arith)
    by (some k) q z =
        let l = label_in_lem 0 fields text k q in
        let n = length (label_text (field_of k)) in
        let s : r.number ≡ k = closed_number k n (value_in (field_of k) (drop n text)) z in
        omega (arith, length_fields)
