-- docs/RULES.md, "Data sheets": refusal 20 of import. "in import 20, at the first such row (header 0), for a wrong header, a row that isn't a known
-- name, that name's own width, a value (no needless zeros) and CRLF, a number past 64 bits or an 831st field row; then the writer's on the value
-- column; then 20 at the first row whose name isn't the one due there." It is told by the rows that export writes, and by no way of reading
-- them. Definitions alone.
use mathlib.Core.List.{List, [], ◌∷◌, ◌++◌, Memᴰ}
use Rattle.std.specs.Prelude.{◌⊎◌, ◌↔◌, ◌≡◌, ℕ, suc, ◌/◌, ◌%◌, ◌^◌, ◌≤◌, ◌<◌, length, Ok, Err}
use Rattle.format.specs.Fields.{fields, NID_RADIO}
use Rattle.format.specs.Telegrams.{Entry, names, values, bit_count}
use Rattle.format.specs.declared.Refusal.{Refusal}
use Rattle.states.specs.Labels.{numbers}
use Rattle.sheet.specs.Rows.{heading, row_text, sheet_text}
use Rattle.given.specs.Broken.Medium.{in_values}
use Rattle.given.specs.Given.{Given, Kept, Accepted}
use Rattle.entrances.specs.Entrances.{BytesGiven, BytesAccepted, RoomGiven, RoomAccepted}
use Rattle.sheet.specs.declared.SheetError.TheVariants as failure
use Rattle.sheet.specs.Replies.{Reply}

-- ---- rows

-- "characters 0-9 and F": four bits that have a character, F being 15
abbrev pub Lettered : ℕ → Type 0
Lettered d = (d ≤ 9) ⊎ (d ≡ 15)

-- "a known name, that name's own width, a value (no needless zeros) and CRLF": `row_text e`, for an entry of a field of the tables with a value that
-- is not "past 64 bits", which for NID_RADIO has sixteen "characters 0-9 and F". `known`: the field is one of the 72 of the tables
pub record Row (e : Entry) : Type 0 where
  pub known : Memᴰ e.field fields
  pub small : e.value < 2 ^ 64
  pub radio : e.field ≡ NID_RADIO → (k : ℕ) → k < 16 → Lettered (e.value / 16 ^ k % 16)

-- every entry is a row
abbrev pub Rows : List Entry → Type 0
Rows [] = Unit
Rows (e ∷ es) = Row e × Rows es

-- what is left of a text begins with no row
abbrev pub NoRow : List ℕ → Type 0
NoRow left = (e : Entry) (rest : List ℕ) → Row e → left ≡ row_text e ++ rest → ⊥

-- "at the first such row (header 0)": what stands before it is the header and rows alone
pub data BadRow (text : List ℕ) : ℕ → Type 0 where
  -- "for a wrong header"
  no_header : ((rest : List ℕ) → text ≡ heading ++ rest → ⊥) → BadRow text 0
  -- "a row that isn't a known name, that name's own width, a value .. and CRLF": the text goes on behind those, and not with a row
  no_row : (es : List Entry) (c : ℕ) (left : List ℕ) → Rows es → length es < 830 → text ≡ sheet_text es ++ (c ∷ left) → NoRow (c ∷ left)
      → BadRow text (suc (length es))
  -- "or an 831st field row": it goes on behind 830 of those, whatever stands there
  too_many : (es : List Entry) (c : ℕ) (left : List ℕ) → Rows es → length es ≡ 830 → text ≡ sheet_text es ++ (c ∷ left) → BadRow text 831

-- there is no such row: the header, and these rows to the end
pub record Column (text : List ℕ) (rs : List Entry) : Type 0 where
  pub rows : Rows rs
  pub few : length rs ≤ 830
  pub is : text ≡ sheet_text rs

-- ---- names

-- "then 20 at the first row whose name isn't the one due there": the rows above have the names of as many entries, and the next one has not
pub record OtherName (rs es : List Entry) (k : ℕ) : Type 0 where
  pub above : List Entry
  pub row : Entry
  pub below : List Entry
  pub rows : rs ≡ above ++ (row ∷ below)
  pub before : List Entry
  pub due : Entry
  pub after : List Entry
  pub entries : es ≡ before ++ (due ∷ after)
  pub same : names above ≡ names before
  pub other : row.field.name ≡ due.field.name → ⊥
  pub number : k ≡ suc (length above)

-- ---- the row that is refused

pub data RowGiven (text : List ℕ) (k : ℕ) : Type 0 where
  bad_row : BadRow text k → RowGiven text k
  other_named : (rs es : List Entry) → Column text rs → Accepted in_values (values rs) es → OtherName rs es k → RowGiven text k

-- ---- what else is answered

-- "then the writer's on the value column": every row is one, and a rule is broken first by the values in them
pub record ColumnGiven (text : List ℕ) (r : Refusal) : Type 0 where
  pub written : List Entry
  pub column : Column text written
  pub given : Given in_values (values written) r

-- "Import accepts only sheets that export writes": the sheet of these entries, which are a telegram
pub record SheetAccepted (text : List ℕ) (es : List Entry) : Type 0 where
  pub kept : Kept es
  pub is : text ≡ sheet_text es

-- ---- export and import

-- "1 for a text output under 65,536 bytes .. in export the reader's", and the length of the sheet of what is accepted
abbrev pub ExportGiven : List ℕ → ℕ → ℕ → Refusal → Type 0
ExportGiven s n room r = RoomGiven 65536 room (BytesGiven s n) r

abbrev pub ExportAccepted : List ℕ → ℕ → ℕ → List Entry → Type 0
ExportAccepted s n room es = RoomAccepted 65536 room (BytesAccepted s n) es

abbrev pub ExportedLength : List ℕ → ℕ → ℕ → ℕ → Type 0
ExportedLength s n room size = (es : List Entry) × ExportAccepted s n room es × (size ≡ length (sheet_text es))

-- "in import a telegram output under 104", before all else; and n of the telegram that is accepted
abbrev pub ImportGiven : List ℕ → ℕ → Refusal → Type 0
ImportGiven text room r = RoomGiven 104 room (ColumnGiven text) r

abbrev pub ImportRow : List ℕ → ℕ → ℕ → Type 0
ImportRow text room k = (104 ≤ room) × RowGiven text k

abbrev pub ImportedSize : List ℕ → ℕ → ℕ → Type 0
ImportedSize text room n = (es : List Entry) × RoomAccepted 104 room (SheetAccepted text) es × (n ≡ bit_count es)

-- ---- rows that were read, as two columns: the numbers of their fields, and their values

-- the first row with another number than that of the field due there, as far as both columns go
pub record OtherNumber (rows due : List ℕ) (k : ℕ) : Type 0 where
  pub above : List ℕ
  pub one : ℕ
  pub below : List ℕ
  pub is : rows ≡ above ++ (one ∷ below)
  pub wanted : ℕ
  pub after : List ℕ
  pub has : due ≡ above ++ (wanted ∷ after)
  pub other : one ≡ wanted → ⊥
  pub number : k ≡ suc (length above)

-- 1 and the writer's are those of the writer; then 20
abbrev pub JudgeRow : List ℕ → List ℕ → ℕ → ℕ → Type 0
JudgeRow ks vs room k = (104 ≤ room) × ((es : List Entry) × Accepted in_values vs es × OtherNumber ks (numbers es) k)

-- n of the telegram with these values, where no row has another number
pub record Agreed (ks vs : List ℕ) (es : List Entry) : Type 0 where
  pub accepted : Accepted in_values vs es
  pub agree : (k : ℕ) → OtherNumber ks (numbers es) k → ⊥

abbrev pub JudgedSize : List ℕ → List ℕ → ℕ → ℕ → Type 0
JudgedSize ks vs room n = (es : List Entry) × RoomAccepted 104 room (Agreed ks vs) es × (n ≡ bit_count es)

-- a reply: it is done with something of this size, refused by this refusal, or by 20 at this row, just where it says so
pub record Replies (Size : ℕ → Type 0) (Wrong : Refusal → Type 0) (Bad : ℕ → Type 0) (reply : Reply) : Type 0 where
  pub done : (n : ℕ) → (reply ≡ Ok n) ↔ Size n
  pub refuses : (r : Refusal) → (reply ≡ Err (failure.Refused r)) ↔ Wrong r
  pub rows : (k : ℕ) → (reply ≡ Err (failure.Row k)) ↔ Bad k
