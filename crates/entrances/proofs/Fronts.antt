-- What a text begins with: a row or none, as it is read. Assumes nothing.
use mathlib.Core.Path.{◌≡◌, refl, sym, ap, ◌∙◌, subst}
use mathlib.Core.Bool.{Bool, true, false, cond}
use mathlib.Core.List.{List, [], ◌∷◌, ◌++◌, map, Memᴰ}
use mathlib.Core.Option.{Option, some, none}
use Prim.Native.Nat.{ℕ, zero, suc, ◌+◌, ◌^◌, ◌<◌}
use native.Mathlib.Omega.{arith}
use borrow.Author.Tests.{eqb-true}
use lib.ListN.{length, drop, get_or}
use Rattle.pieces.specs.Pieces.{begins}
use Rattle.pieces.specs.Numbers.{Found, decimal_in, sixteen_in}
use Rattle.pieces.proofs.Decimals.{decimal_is}
use Rattle.pieces.proofs.Sixteens.{Placed, sixteen_is}
use Rattle.format.specs.Fields.{Field, fields, NID_RADIO, END}
use Rattle.format.specs.Telegrams.{Entry}
use Rattle.laws.proofs.Listed.{Known, AllKnown, known_number}
use Rattle.sheet.specs.Rows.{crlf, label_text, is_radio, row_text, field_of, entry_of}
use Rattle.sheet.specs.Reading.{row, label_in, value_in, closed, valued, row_in}
use Rattle.sheet.specs.Reading as reading
use Rattle.sheet.proofs.Table.{length_fields}
use Rattle.sheet.proofs.Fronts.{row_number}
use Rattle.sheet.proofs.Readable.{Readable, AllReadable}
use Rattle.sheet.proofs.Written.{row_read, entry_is}
use Rattle.sheet.proofs.Taken.{row_stood}
use Rattle.entrances.specs.Rows.{Row, Rows, NoRow}
use Rattle.entrances.proofs.Places.{to_placed, from_placed, sixteen_placed}

-- ---- "a known name": a field of the list stands at its number there

member_at_lem : (fs : List Field) (k : ℕ) → k < length fs → Memᴰ (get_or fs k END) fs
member_at_lem [] k h = absurd (omega arith)
member_at_lem (f ∷ fs) zero h = Memᴰ.head refl
member_at_lem (f ∷ fs) (suc k) h = Memᴰ.tail (member_at_lem fs k (omega arith))

field_member : (k : ℕ) → k < 72 → Memᴰ (field_of k) fields
field_member k h = member_at_lem fields k (rw length_fields h)

pub known_member : {f : Field} → Known f → Memᴰ f fields
known_member {f} k = subst (λ (g : Field). Memᴰ g fields) k (field_member f.number (known_number f k))

-- what is computed of the whole list holds of each of its fields
pub member_of_lem : {A : Type 0} (h i : Field → A) {f : Field} {fs : List Field} → Memᴰ f fs → map h fs ≡ map i fs → h f ≡ i f
member_of_lem h i (Memᴰ.head e) m = rw e (cc)
member_of_lem h i (Memᴰ.tail d) m = member_of_lem h i d (cc)

list_known : map (λ f. field_of f.number) fields ≡ map (λ f. f) fields
unfolding fields
list_known = refl

pub member_known : {f : Field} → Memᴰ f fields → Known f
member_known m = member_of_lem (λ g. field_of g.number) (λ g. g) m list_known

-- ---- a row can be read

radio_field : field_of 35 ≡ NID_RADIO
unfolding fields
radio_field = refl

pub readable : {e : Entry} → Row e → Readable e
readable {e} r =
    let k = member_known r.known in
    record {
      known = k;
      small = r.small;
      placed = λ i. to_placed e.value (r.radio (sym k ∙ ap field_of (eqb-true e.field.number 35 i) ∙ radio_field));
    }

pub all_readable : (es : List Entry) → Rows es → AllReadable es
all_readable [] r = tt
all_readable (e ∷ es) r = (readable r.0, all_readable es r.1)

pub all_known : (es : List Entry) → Rows es → AllKnown es
all_known [] r = tt
all_known (e ∷ es) r = (member_known r.0.known, all_known es r.1)

row_found : {e : Entry} → Row e → (rest : List ℕ) → row_in (row_text e ++ rest) ≡ some (row e.field.number e.value (length (row_text e)))
row_found {e} r rest =
    let d = readable r in
    let placed : is_radio (field_of e.field.number) ≡ true → Placed 16 e.value =
    subst (λ (f : Field). is_radio f ≡ true → Placed 16 e.value) (sym d.known) d.placed in
    subst (λ (x : Entry). row_in (row_text x ++ rest) ≡ some (row e.field.number e.value (length (row_text x)))) (entry_is e d)
    (row_read e.field.number e.value (known_number e.field d.known) d.small placed rest)

-- ---- and what is read is a row

value_told : (f : Field) (text : List ℕ) (x : Found) → value_in f text ≡ some x → (x.value < 2 ^ 64) × (is_radio f ≡ true → Placed 16 x.value)
value_told f text x e = by (is_radio f) e
  where
    by : (b : Bool) → cond b (sixteen_in text) (decimal_in text) ≡ some x → (x.value < 2 ^ 64) × (b ≡ true → Placed 16 x.value)
    by true z = ((sixteen_is text x z).small, λ q. sixteen_placed text x z)
    by false z = ((decimal_is text x z).small, λ q. let w : ◌≡◌ {A = ℕ} 0 1 = cc in absurd (omega arith))

told_row : (k v : ℕ) → k < 72 → (v < 2 ^ 64) × (is_radio (field_of k) ≡ true → Placed 16 v) → Row (entry_of k v)
told_row k v h t = record { known = field_member k h; small = t.0; radio = λ e. from_placed 16 v (t.1 (ap is_radio e)) }

module _ (text : List ℕ) (r : reading.Row) (e : row_in text ≡ some r) where
  by_value : (k n : ℕ) (o : Option Found) → value_in (field_of k) (drop n text) ≡ o → closed k n o text ≡ some r → Row (entry_of r.number r.value)
  by_value k n none q z = let w : ◌≡◌ {A = ℕ} 0 1 = cc in absurd (omega arith)
  by_value k n (some x) q z = by_end (begins crlf (drop (n + x.count) text)) z
    where
      by_end : (b : Bool) → cond b (some (row k x.value (n + x.count + 2))) none ≡ some r → Row (entry_of r.number r.value)
      by_end true y =
          let i : k ≡ r.number = cc in
          let j : x.value ≡ r.value = cc in
          rw (← i, ← j) (told_row k x.value (rw i (row_number text r e)) (value_told (field_of k) (drop n text) x q))
      by_end false y = let w : ◌≡◌ {A = ℕ} 0 1 = cc in absurd (omega arith)

  row_told : Row (entry_of r.number r.value)
  unfolding row_in
  row_told = by_label (label_in 0 fields text) e
    where
      by_label : (o : Option ℕ) → valued o text ≡ some r → Row (entry_of r.number r.value)
      by_label none z = let w : ◌≡◌ {A = ℕ} 0 1 = cc in absurd (omega arith)
      by_label (some k) z = by_value k (length (label_text (field_of k))) (value_in (field_of k) (drop (length (label_text (field_of k))) text)) refl z

-- ---- so that a text begins with a row or with none

pub data Front (text : List ℕ) : Type 0 where
  a_row : (e : Entry) (rest : List ℕ) → Row e → text ≡ row_text e ++ rest → Front text
  nothing : row_in text ≡ none → NoRow text → Front text

pub front : (text : List ℕ) → Front text
front text = by (row_in text) refl
  where
    by : (o : Option reading.Row) → row_in text ≡ o → Front text
    by (some r) q = a_row (entry_of r.number r.value) (drop r.count text) (row_told text r q) (row_stood text r q).is
    by none q =
        nothing q (λ e rest r i. let s = sym q ∙ ap row_in i ∙ row_found r rest in let w : ◌≡◌ {A = ℕ} 0 1 = cc in absurd (omega arith))
