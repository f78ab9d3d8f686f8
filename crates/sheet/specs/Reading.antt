-- docs/RULES.md, "Data sheets": a text taken as a sheet. "in import 20, at the first such row (header 0), for a wrong header, a row that isn't a
-- known name, that name's own width, a value (no needless zeros) and CRLF, a number past 64 bits or an 831st field row". Definitions alone.
use Rattle.std.specs.Prelude.{cond, List, [], ◌∷◌, ℕ, zero, suc, ◌+◌, length, drop}
use Rattle.std.proofs.Math.Option.{Option, some, none}
use Rattle.pieces.specs.Pieces.{begins}
use Rattle.pieces.specs.Numbers.{Found, decimal_in, sixteen_in}
use Rattle.format.specs.Fields.{Field, fields}
use Rattle.format.specs.Telegrams.{Entry}
use Rattle.sheet.specs.Rows.{crlf, heading, label_text, is_radio, field_of, entry_of}

-- a row at the front of a text: its field's number, its value, and how many characters it takes
pub record Row : Type 0 where
  pub number : ℕ
  pub value : ℕ
  pub count : ℕ

abbrev pub row : ℕ → ℕ → ℕ → Row
row k v n = record { number = k; value = v; count = n }

-- "a known name, that name's own width": the field, among those from number k on, whose label the text begins with
abbrev pub label_in : ℕ → List Field → List ℕ → Option ℕ
label_in k [] text = none
label_in k (f ∷ fs) text = cond (begins (label_text f) text) (some k) (label_in (suc k) fs text)

-- "a value"
abbrev pub value_in : Field → List ℕ → Option Found
value_in f text = cond (is_radio f) (sixteen_in text) (decimal_in text)

-- "and CRLF": behind the label of field k, of n characters, and a value
abbrev pub closed : ℕ → ℕ → Option Found → List ℕ → Option Row
closed k n none text = none
closed k n (some x) text = cond (begins crlf (drop (n + x.count) text)) (some (row k x.value (n + x.count + 2))) none

abbrev pub valued : Option ℕ → List ℕ → Option Row
valued none text = none
valued (some k) text =
    closed k (length (label_text (field_of k))) (value_in (field_of k) (drop (length (label_text (field_of k))) text)) text

unfoldable pub row_in : List ℕ → Option Row
row_in text = valued (label_in 0 fields text) text

-- ---- all rows

-- the rows as entries, or the first that is none
pub data Rows : Type 0 where
  rows : List Entry → Rows
  bad : ℕ → Rows

abbrev pub above : Entry → Rows → Rows
above e (rows es) = rows (e ∷ es)
above e (bad k) = bad k

-- where `rest` answers for the text behind so many characters
abbrev pub on_row : Option Row → ℕ → (ℕ → Rows) → Rows
on_row none n rest = bad (suc n)
on_row (some r) n rest = above (entry_of r.number r.value) (rest r.count)

-- behind n rows, where so many more may follow; "or an 831st field row"
unfoldable pub rows_in : ℕ → ℕ → List ℕ → Rows
rows_in zero n [] = rows []
rows_in zero n (c ∷ text) = bad (suc n)
rows_in (suc left) n [] = rows []
rows_in (suc left) n (c ∷ text) = on_row (row_in (c ∷ text)) n (λ k. rows_in left (suc n) (drop k (c ∷ text)))

unfoldable pub sheet_in : List ℕ → Rows
sheet_in text = cond (begins heading text) (rows_in 830 0 (drop (length heading) text)) (bad 0)
