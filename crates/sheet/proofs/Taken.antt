-- A text that is read as rows is what would be written for them: row by row, and the sheet. Assumes nothing.
use mathlib.Core.Path.{◌≡◌, refl, sym, ap, ◌∙◌, subst}
use mathlib.Core.Bool.{Bool, true, false, cond}
use mathlib.Core.List.{List, [], ◌∷◌, ◌++◌, append_assoc}
use mathlib.Core.Option.{Option, some, none}
use Prim.Native.Nat.{ℕ, zero, suc, ◌+◌, ◌<◌}
use native.Mathlib.Omega.{arith}
use lib.ListN.{length, drop, get_or}
use lib.Seq.{drop_at, drop-drop}
use Rattle.pieces.specs.Pieces.{begins}
use Rattle.pieces.specs.Numbers.{Found, decimal, sixteen, decimal_in, sixteen_in}
use Rattle.pieces.proofs.Starts.{begins_is}
use Rattle.pieces.proofs.Decimals.{Fronted, decimal_is}
use Rattle.pieces.proofs.Sixteens.{sixteen_is}
use Rattle.format.specs.Fields.{Field, fields, END}
use Rattle.format.specs.Telegrams.{Entry, all}
use Rattle.laws.proofs.Listed.{Known, AllKnown}
use Rattle.sheet.specs.Rows.{crlf, heading, label_text, is_radio, value_text, row_text, sheet_text, field_of, entry_of}
use Rattle.sheet.specs.Reading.{Row, row, Rows, label_in, value_in, closed, valued, row_in, above, on_row, rows_in, sheet_in}
use Rattle.sheet.specs.Reading.Rows.{rows, bad}
use Rattle.sheet.proofs.Table.{number_of}
use Rattle.sheet.proofs.Fronts.{row_number}

-- ---- a row

-- the label that was found stands there
record Standing (j : ℕ) (fs : List Field) (text : List ℕ) (k : ℕ) : Type 0 where
  pub place : ℕ
  pub counted : k ≡ j + place
  pub stands : begins (label_text (get_or fs place END)) text ≡ true

standing : (j : ℕ) (fs : List Field) (text : List ℕ) (k : ℕ) → label_in j fs text ≡ some k → Standing j fs text k
standing j [] text k e = let w : ◌≡◌ {A = ℕ} 0 1 = cc in absurd (omega arith)
standing j (f ∷ fs) text k e = by (begins (label_text f) text) refl (standing (suc j) fs text k) e
  where
    by : (b : Bool) → begins (label_text f) text ≡ b → (label_in (suc j) fs text ≡ some k → Standing (suc j) fs text k)
        → cond b (some j) (label_in (suc j) fs text) ≡ some k → Standing j (f ∷ fs) text k
    by true q ih z = record { place = 0; counted = let s : j ≡ k = cc in omega arith; stands = q }
    by false q ih z = let s = ih z in record { place = suc s.place; counted = omega (arith, s.counted); stands = s.stands }

label_stands : (text : List ℕ) (k : ℕ) → label_in 0 fields text ≡ some k → begins (label_text (field_of k)) text ≡ true
label_stands text k e =
    let s = standing 0 fields text k e in
    let same : s.place ≡ k = omega (arith, s.counted) in
    subst (λ (n : ℕ). begins (label_text (field_of n)) text ≡ true) same s.stands

value_is : (f : Field) (text : List ℕ) (x : Found) → value_in f text ≡ some x → Fronted (value_text f) text x
value_is f text x e = by (is_radio f) e
  where
    by : (b : Bool) → cond b (sixteen_in text) (decimal_in text) ≡ some x → Fronted (λ v. cond b (sixteen v) (decimal v)) text x
    by true z = sixteen_is text x z
    by false z = decimal_is text x z

-- a row that was read: its text, and what stands behind it
pub record Stood (text : List ℕ) (r : Row) : Type 0 where
  pub known : r.number < 72
  pub is : text ≡ row_text (entry_of r.number r.value) ++ drop r.count text

module _ (text : List ℕ) (k : ℕ) (e : label_in 0 fields text ≡ some k) where
  abbrev l : List ℕ
  l = label_text (field_of k)

  front : text ≡ l ++ drop (length l) text
  front = begins_is l text (label_stands text k e)

  module _ (x : Found) (f : Fronted (value_text (field_of k)) (drop (length l) text) x) (b : begins crlf (drop (length l + x.count) text) ≡ true) where
    abbrev w : List ℕ
    w = value_text (field_of k) x.value

    closing : f.rest ≡ crlf ++ drop (length l + x.count + 2) text
    closing =
        let behind : drop (length l + x.count) text ≡ f.rest =
        sym (drop-drop x.count (length l) text) ∙ ap (drop x.count) f.is ∙ drop_at w f.rest x.count (sym f.count) in
        sym behind ∙ begins_is crlf (drop (length l + x.count) text) b ∙ ap (λ (t : List ℕ). crlf ++ t) (drop-drop 2 (length l + x.count) text)

    whole : text ≡ row_text (entry_of k x.value) ++ drop (length l + x.count + 2) text
    unfolding row_text
    whole =
        front
        ∙ ap (λ (t : List ℕ). l ++ t) (f.is ∙ ap (λ (t : List ℕ). w ++ t) closing)
        ∙ sym (append_assoc (l ++ w) crlf (drop (length l + x.count + 2) text) ∙ append_assoc l w (crlf ++ drop (length l + x.count + 2) text))

pub row_stood : (text : List ℕ) (r : Row) → row_in text ≡ some r → Stood text r
unfolding row_in
row_stood text r e = by_label (label_in 0 fields text) refl e
  where
    by_end : (k : ℕ) → label_in 0 fields text ≡ some k → (x : Found) → value_in (field_of k) (drop (length (label_text (field_of k))) text) ≡ some x
        → (b : Bool) → begins crlf (drop (length (label_text (field_of k)) + x.count) text) ≡ b
        → cond b (some (row k x.value (length (label_text (field_of k)) + x.count + 2))) none ≡ some r
        → text ≡ row_text (entry_of r.number r.value) ++ drop r.count text
    by_end k q x v true b z =
        let s : row k x.value (length (label_text (field_of k)) + x.count + 2) ≡ r = cc in
        subst (λ (y : Row). text ≡ row_text (entry_of y.number y.value) ++ drop y.count text) s
        (whole text k q x (value_is (field_of k) (drop (length (label_text (field_of k))) text) x v) b)
    by_end k q x v false b z = cc

    by_value : (k : ℕ) → label_in 0 fields text ≡ some k → (o : Option Found) → value_in (field_of k) (drop (length (label_text (field_of k))) text) ≡ o
        → closed k (length (label_text (field_of k))) o text ≡ some r → text ≡ row_text (entry_of r.number r.value) ++ drop r.count text
    by_value k q none v z = cc
    by_value k q (some x) v z = by_end k q x v (begins crlf (drop (length (label_text (field_of k)) + x.count) text)) refl z

    by_label : (o : Option ℕ) → label_in 0 fields text ≡ o → valued o text ≡ some r → Stood text r
    by_label none q z = let w : ◌≡◌ {A = ℕ} 0 1 = cc in absurd (omega arith)
    by_label (some k) q z =
        record {
          known = row_number text r e;
          is = by_value k q (value_in (field_of k) (drop (length (label_text (field_of k))) text)) refl z;
        }

-- ---- all rows

known_field : (k : ℕ) → k < 72 → Known (field_of k)
known_field k h = ap field_of (number_of k h)

-- the text is what is written for these rows, whose fields are known
pub record Stands (written : List Entry → List ℕ) (text : List ℕ) (es : List Entry) : Type 0 where
  pub is : text ≡ written es
  pub known : AllKnown es

module _ (text : List ℕ) (n : ℕ) (ahead : ℕ → Rows)
    (ih : (k : ℕ) (es : List Entry) → ahead k ≡ rows es → Stands (all row_text) (drop k text) es) (es : List Entry) where
  by_rest : (r : Row) → Stood text r → (a : Rows) → ahead r.count ≡ a → above (entry_of r.number r.value) a ≡ rows es → Stands (all row_text) text es
  by_rest r s (bad k) q z = let w : ◌≡◌ {A = ℕ} 0 1 = cc in absurd (omega arith)
  by_rest r s (rows fs) q z =
      let same : entry_of r.number r.value ∷ fs ≡ es = cc in
      let rest = ih r.count fs q in
      subst (Stands (all row_text) text) same
      (record {
        is = s.is ∙ ap (λ (t : List ℕ). row_text (entry_of r.number r.value) ++ t) rest.is;
        known = (known_field r.number s.known, rest.known);
      })

  by_row : (o : Option Row) → row_in text ≡ o → on_row o n ahead ≡ rows es → Stands (all row_text) text es
  by_row none q z = let w : ◌≡◌ {A = ℕ} 0 1 = cc in absurd (omega arith)
  by_row (some r) q z = by_rest r (row_stood text r q) (ahead r.count) refl z

nothing_there : (es : List Entry) → rows [] ≡ rows es → Stands (all row_text) [] es
nothing_there es e = let s : [] ≡ es = cc in subst (Stands (all row_text) []) s (record { is = refl; known = tt })

rows_stand : (left n : ℕ) (text : List ℕ) (es : List Entry) → rows_in left n text ≡ rows es → Stands (all row_text) text es
unfolding rows_in
rows_stand zero n [] es e = nothing_there es e
rows_stand zero n (c ∷ text) es e = let w : ◌≡◌ {A = ℕ} 0 1 = cc in absurd (omega arith)
rows_stand (suc left) n [] es e = nothing_there es e
rows_stand (suc left) n (c ∷ text) es e =
    by_row (c ∷ text) n (λ k. rows_in left (suc n) (drop k (c ∷ text))) (λ k fs q. rows_stand left (suc n) (drop k (c ∷ text)) fs q) es
    (row_in (c ∷ text)) refl e

pub sheet_stands : (text : List ℕ) (es : List Entry) → sheet_in text ≡ rows es → Stands sheet_text text es
unfolding sheet_in sheet_text
sheet_stands text es e = by (begins heading text) refl e
  where
    by : (b : Bool) → begins heading text ≡ b → cond b (rows_in 830 0 (drop (length heading) text)) (bad 0) ≡ rows es → Stands sheet_text text es
    by true q z =
        let s = rows_stand 830 0 (drop (length heading) text) es z in
        record { is = begins_is heading text q ∙ ap (λ (t : List ℕ). heading ++ t) s.is; known = s.known }
    by false q z = let w : ◌≡◌ {A = ℕ} 0 1 = cc in absurd (omega arith)
