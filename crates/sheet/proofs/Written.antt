-- What export writes is read as what it wrote: row by row, and the sheet. Assumes nothing.
use mathlib.Core.Path.{◌≡◌, refl, sym, ap, ◌∙◌, subst}
use mathlib.Core.Bool.{Bool, true, false, cond}
use mathlib.Core.List.{List, [], ◌∷◌, ◌++◌, append_assoc}
use mathlib.Core.Option.{Option, some}
use Prim.Native.Nat.{ℕ, zero, suc, ◌+◌, ◌^◌, ◌≤◌, ◌<◌}
use native.Mathlib.Omega.{arith}
use lib.ListN.{length, drop, length-append}
use lib.Seq.{drop_at}
use Rattle.pieces.specs.Numbers.{Found, found, decimal, sixteen, decimal_in, sixteen_in}
use Rattle.pieces.proofs.Starts.{begins_front}
use Rattle.pieces.proofs.Decimals.{decimal_read}
use Rattle.pieces.proofs.Sixteens.{Placed, sixteen_read}
use Rattle.format.specs.Fields.{Field, fields}
use Rattle.format.specs.Telegrams.{Entry, all}
use Rattle.laws.proofs.Listed.{known_number}
use Rattle.sheet.specs.Rows.{crlf, heading, label_text, is_radio, value_text, row_text, sheet_text, field_of, entry_of}
use Rattle.sheet.specs.Reading.{Row, row, label_in, value_in, closed, valued, row_in, above, on_row, rows_in, sheet_in}
use Rattle.sheet.specs.Reading.Rows.{rows}
use Rattle.sheet.proofs.Table.{own_part}
use Rattle.sheet.proofs.Gathering.{rows_row}
use Rattle.sheet.proofs.Distinct.{label_first}
use Rattle.sheet.proofs.Readable.{Readable, AllReadable}

-- a value, with CRLF behind it
value_read : (f : Field) (v : ℕ) (rest : List ℕ) → v < 2 ^ 64 → (is_radio f ≡ true → Placed 16 v)
    → value_in f (value_text f v ++ (crlf ++ rest)) ≡ some (found v (length (value_text f v)))
value_read f v rest h p = by (is_radio f) p
  where
    by : (b : Bool) → (b ≡ true → Placed 16 v)
        → cond b (sixteen_in (cond b (sixteen v) (decimal v) ++ (crlf ++ rest))) (decimal_in (cond b (sixteen v) (decimal v) ++ (crlf ++ rest)))
        ≡ some (found v (length (cond b (sixteen v) (decimal v))))
    by true q = sixteen_read v (crlf ++ rest) (q refl) h
    by false q = decimal_read v 13 (10 ∷ rest) h refl

module _ (k v : ℕ) (h : k < 72) (small : v < 2 ^ 64) (placed : is_radio (field_of k) ≡ true → Placed 16 v) (rest : List ℕ) where
  abbrev l : List ℕ
  l = label_text (field_of k)

  abbrev w : List ℕ
  w = value_text (field_of k) v

  -- label, value, CRLF and what follows
  divided : row_text (entry_of k v) ++ rest ≡ l ++ (w ++ (crlf ++ rest))
  unfolding row_text
  divided = append_assoc (l ++ w) crlf rest ∙ append_assoc l w (crlf ++ rest)

  behind_both : drop (length l + length w) (l ++ (w ++ (crlf ++ rest))) ≡ crlf ++ rest
  behind_both =
      ap (drop (length l + length w)) (sym (append_assoc l w (crlf ++ rest)))
      ∙ drop_at (l ++ w) (crlf ++ rest) (length l + length w) (length-append l w)

  row_count : length l + length w + 2 ≡ length (row_text (entry_of k v))
  unfolding row_text
  row_count = sym (length-append (l ++ w) crlf ∙ ap (λ (n : ℕ). n + 2) (length-append l w))

  pub row_read : row_in (row_text (entry_of k v) ++ rest) ≡ some (row k v (length (row_text (entry_of k v))))
  unfolding row_in
  row_read =
      ap (λ (t : List ℕ). valued (label_in 0 fields t) t) divided
      ∙ ap (λ (o : Option ℕ). valued o (l ++ (w ++ (crlf ++ rest)))) (label_first k h (w ++ (crlf ++ rest)))
      ∙ ap (λ (t : List ℕ). closed k (length l) (value_in (field_of k) t) (l ++ (w ++ (crlf ++ rest)))) (drop_at l (w ++ (crlf ++ rest)) (length l) refl)
      ∙ ap (λ (o : Option Found). closed k (length l) o (l ++ (w ++ (crlf ++ rest)))) (value_read (field_of k) v rest small placed)
      ∙ rw (behind_both, begins_front crlf rest, row_count)

  pub row_some : 0 < length (row_text (entry_of k v) ++ rest)
  row_some =
      let a = length-append (row_text (entry_of k v)) rest in
      let b = (own_part k h).some_there in
      omega (arith, a, b, row_count)

-- ---- an entry that can be read, and all of them

pub entry_is : (e : Entry) → Readable e → entry_of e.field.number e.value ≡ e
entry_is e r = ap (λ (f : Field). record { field = f; value = e.value }) r.known

rows_none : (left n : ℕ) → rows_in left n [] ≡ rows []
unfolding rows_in
rows_none zero n = refl
rows_none (suc left) n = refl

-- a readable entry's row, and then the rest
pub row_then : (e : Entry) (left n : ℕ) (rest : List ℕ) → Readable e
    → rows_in (suc left) n (row_text e ++ rest) ≡ above e (rows_in left (suc n) rest)
row_then e left n rest r =
    let k = known_number e.field r.known in
    let same = entry_is e r in
    let placed : is_radio (field_of e.field.number) ≡ true → Placed 16 e.value =
    subst (λ (f : Field). is_radio f ≡ true → Placed 16 e.value) (sym r.known) r.placed in
    subst (λ (x : Entry). rows_in (suc left) n (row_text x ++ rest) ≡ above x (rows_in left (suc n) rest)) same
    (rows_row (row_text (entry_of e.field.number e.value) ++ rest) 0 n (row_some e.field.number e.value k r.small placed rest) left
    ∙ ap (λ (o : Option Row). on_row o n (λ j. rows_in left (suc n) (drop j (row_text (entry_of e.field.number e.value) ++ rest))))
    (row_read e.field.number e.value k r.small placed rest)
    ∙ ap (λ (t : List ℕ). above (entry_of e.field.number e.value) (rows_in left (suc n) t))
    (drop_at (row_text (entry_of e.field.number e.value)) rest (length (row_text (entry_of e.field.number e.value))) refl))

pub rows_read_lem : (es : List Entry) (left n : ℕ) → AllReadable es → length es ≤ left → rows_in left n (all row_text es) ≡ rows es
rows_read_lem [] left n a h = rows_none left n
rows_read_lem (e ∷ es) zero n a h = absurd (omega arith)
rows_read_lem (e ∷ es) (suc left) n a h =
    row_then e left n (all row_text es) a.0 ∙ ap (above e) (rows_read_lem es left (suc n) a.1 (omega arith))

pub sheet_read : (es : List Entry) → AllReadable es → length es ≤ 830 → sheet_in (sheet_text es) ≡ rows es
unfolding sheet_in sheet_text
sheet_read es a h =
    rw (begins_front heading (all row_text es))
    (ap (rows_in 830 0) (drop_at heading (all row_text es) (length heading) refl) ∙ rows_read_lem es 830 0 a h)
