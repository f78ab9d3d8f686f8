-- What the functions of export and import ask and promise. Definitions alone.
use Rattle.std.specs.Prelude.{◌≡◌, true, cond, List, [], ◌∷◌, ◌++◌, ℕ, ◌+◌, ◌*◌, ◌≤◌, ◌<◌, leb, length, take, Some, None, Ok, Err}
use Rattle.std.proofs.Math.Option.{Option, some, none}
use Rattle.bits.specs.Bits.{Below}
use Rattle.format.specs.Fields.{fields}
use Rattle.format.specs.Rules.{Terms, paper}
use Rattle.format.specs.Telegrams.{Entry, Telegram, all, values, write}
use Rattle.format.specs.Telegrams.Result.{accepted}
use Rattle.format.specs.declared.Kind.TheVariants.{Room}
use Rattle.pieces.specs.Pieces.{begins, Grown}
use Rattle.states.specs.Reader.{bytes_needed, early}
use Rattle.sheet.specs.Rows.{label_text, row_text, field_of, entry_of, labels, starts}
use Rattle.sheet.specs.Reading.{Row, Rows, label_in, sheet_in}
use Rattle.sheet.specs.Reading.Rows.{rows, bad}
use Rattle.sheet.specs.Sheets.{in_numbers, Imported, length_of, sheet_over, other_name, judged, size_of, bytes_over}
use Rattle.sheet.specs.Sheets.Imported.{refused_by}
use Rattle.sheet.specs.Replies.{Reply}
use Rattle.std.specs.Prelude as code

-- ---- one row

-- what is lent is the labels of all rows, and where they begin
pub record Tables (ls ss : List ℕ) : Type 0 where
  pub texts : ls ≡ labels
  pub begin : ss ≡ starts

-- the answer of what reads a row at a position
abbrev pub row_at : ℕ → Option Row → code.Option (ℕ × ℕ × ℕ)
row_at at none = None
row_at at (some r) = Some (r.number, r.value, at + r.count)

-- what the code found, in the words of the definitions
abbrev pub found : code.Option ℕ → Option ℕ
found None = none
found (Some k) = some k

-- a field that is known by its number, whose label stands at the front of a text
abbrev pub Standing : List ℕ → code.Option ℕ → Type 0
Standing text None = Unit
Standing text (Some k) = (k < 72) × (begins (label_text (field_of k)) text ≡ true)

-- the number of the field whose label a text begins with, if there is one
pub record Labelled (text : List ℕ) (field : code.Option ℕ) : Type 0 where
  pub is : label_in 0 fields text ≡ found field
  pub stands : Standing text field

-- a row is put behind any text so far, if there is room for the longest
abbrev pub RowPut : ℕ → ℕ → List ℕ → ℕ → ℕ → List ℕ → Type 0
RowPut k v before at end after =
    (base text : List ℕ) → Grown base text at before → length text + 43 ≤ length base → Grown base (text ++ row_text (entry_of k v)) end after

-- ---- rows as two lists, of the fields' numbers and of the values

abbrev pub entries_of : List ℕ → List ℕ → List Entry
entries_of [] vs = []
entries_of (k ∷ ks) [] = []
entries_of (k ∷ ks) (v ∷ vs) = entry_of k v ∷ entries_of ks vs

pub record Columns (ks vs : List ℕ) : Type 0 where
  pub same : length ks ≡ length vs
  pub known : Below 72 ks

abbrev pub RowsPut : List ℕ → List ℕ → List ℕ → ℕ → ℕ → List ℕ → Type 0
RowsPut ks vs before at end after =
    (base text : List ℕ) → Grown base text at before → length text + 43 * length vs ≤ length base
    → Grown base (text ++ all row_text (entries_of ks vs)) end after

-- ---- export

-- the values are those of a telegram, and the text has room for any sheet
pub record Listing (vs text : List ℕ) : Type 0 where
  pub entries : List Entry
  pub telegram : Telegram paper entries
  pub same : vs ≡ values entries
  pub room : 65536 ≤ length text

pub record Wrote (vs before : List ℕ) (reply : Reply) (after : List ℕ) : Type 0 where
  pub answers : (es : List Entry) → Telegram paper es → vs ≡ values es → reply ≡ length_of (accepted es)
  pub contents : (es : List Entry) → Telegram paper es → vs ≡ values es → after ≡ sheet_over (accepted es) before

-- ---- import

pub record Collecting (ks vs : List ℕ) : Type 0 where
  pub fields : length ks ≡ 830
  pub values : length vs ≡ 830

-- the rows that were read, in front of the two lists
abbrev pub rows_read : code.Result ℕ ℕ → List ℕ → List ℕ → Rows
rows_read (Ok n) ks vs = rows (entries_of (take n ks) (take n vs))
rows_read (Err k) ks vs = bad k

abbrev pub FewRows : code.Result ℕ ℕ → List ℕ → Type 0
FewRows (Ok n) ks = (n ≤ 830) × Below 72 (take n ks)
FewRows (Err k) ks = Unit

pub record Collected (text : List ℕ) (r : code.Result ℕ ℕ) (ks vs : List ℕ) : Type 0 where
  pub is : sheet_in text ≡ rows_read r ks vs
  pub few : FewRows r ks

-- the numbers of the rows' fields and the value column as a telegram, with "a telegram output under 104" refused first
unfoldable pub columns_into : Terms → List ℕ → List ℕ → ℕ → Imported
columns_into p ks vs room = cond (leb bytes_needed room) (judged ks (write p vs)) (refused_by (early Room))

-- the promise of `judge`
pub record Judged (ks vs before : List ℕ) (reply : Reply) (after : List ℕ) : Type 0 where
  pub answers : in_numbers reply ≡ in_numbers (size_of (columns_into paper ks vs (length before)))
  pub contents : after ≡ bytes_over (columns_into paper ks vs (length before)) before

-- the first row with another number than is due, if there is one
abbrev pub Other : List ℕ → List ℕ → code.Option ℕ → Type 0
Other ks due row = other_name 0 ks due ≡ found row
