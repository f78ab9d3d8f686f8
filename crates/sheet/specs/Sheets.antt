-- docs/RULES.md, "Data sheets": what export and import answer, and what they leave in what is lent. Definitions alone.
use Rattle.std.specs.Prelude.{◌≡◌, cond, List, [], ◌∷◌, ◌++◌, ℕ, suc, eqb, leb, length, drop, Ok, Err}
use Rattle.std.proofs.Math.Option.{Option, some, none}
use Rattle.format.specs.Refusals as refusals
use Rattle.format.specs.Rules.{Terms}
use Rattle.format.specs.Telegrams.{Entry, Result, bit_count, values, write}
use Rattle.format.specs.Telegrams.Result.{accepted, refused}
use Rattle.format.specs.declared.Kind.TheVariants.{Room}
use Rattle.format.specs.declared.Refusal.{Refusal}
use Rattle.states.specs.Labels.{numbers}
use Rattle.states.specs.Reader.{bytes_needed, early, roomed, checked}
use Rattle.states.specs.Writer as writer
use Rattle.sheet.specs.Rows.{sheet_text}
use Rattle.sheet.specs.Reading.{Rows, sheet_in}
use Rattle.sheet.specs.Reading.Rows.{rows, bad}
use Rattle.sheet.specs.declared.SheetError.TheVariants.{Refused, Row}
use Rattle.sheet.specs.Replies.{Reply}

-- ---- a reply in the numbers of docs/RULES.md

-- the number of what is refused, 0 where nothing is
abbrev pub number_of : Reply → ℕ
number_of (Ok n) = 0
number_of (Err (Refused r)) = refusals.number_of r.kind
number_of (Err (Row k)) = 20

-- what comes with it: the size of what was made, the place, or the row
abbrev pub value_of : Reply → ℕ
value_of (Ok n) = n
value_of (Err (Refused r)) = r.place
value_of (Err (Row k)) = k

-- "When an answer is an enum, a definition specifies [the rules'] number and values for each of its cases": a reply is known by them
-- (`reply-is` in proofs/Numbers.antt)
abbrev pub in_numbers : Reply → ℕ × ℕ
in_numbers reply = (number_of reply, value_of reply)

-- ---- export

-- "1 for a text output under 65,536 bytes .. in export the reader's"
unfoldable pub exported : Terms → List ℕ → ℕ → ℕ → Result
exported p s n room = roomed 65536 room (checked p s n)

abbrev pub length_of : Result → Reply
length_of (accepted es) = Ok (length (sheet_text es))
length_of (refused r) = Err (Refused r)

abbrev pub sheet_over : Result → List ℕ → List ℕ
sheet_over (accepted es) before = sheet_text es ++ drop (length (sheet_text es)) before
sheet_over (refused r) before = before

-- the promise of `export`
pub record Export (p : Terms) (s : List ℕ) (n : ℕ) (before : List ℕ) (reply : Reply) (after : List ℕ) : Type 0 where
  pub answers : in_numbers reply ≡ in_numbers (length_of (exported p s n (length before)))
  pub contents : after ≡ sheet_over (exported p s n (length before)) before

-- ---- import

-- a telegram, a refusal of the library's, or "20, at the first such row"
pub data Imported : Type 0 where
  taken : List Entry → Imported
  refused_by : Refusal → Imported
  refused_at : ℕ → Imported

-- "the first row whose name isn't the one due there", behind n rows, by the fields' numbers
abbrev pub other_name : ℕ → List ℕ → List ℕ → Option ℕ
other_name n [] due = none
other_name n (k ∷ ks) [] = none
other_name n (k ∷ ks) (d ∷ due) = cond (eqb k d) (other_name (suc n) ks due) (some (suc n))

abbrev pub named : Option ℕ → List Entry → Imported
named none es = taken es
named (some k) es = refused_at k

-- "then the writer's on the value column; then 20 at the first row ..", by the numbers of the rows' fields
abbrev pub judged : List ℕ → Result → Imported
judged ks (refused r) = refused_by r
judged ks (accepted es) = named (other_name 0 ks (numbers es)) es

abbrev pub on_sheet : Terms → Rows → Imported
on_sheet p (bad k) = refused_at k
on_sheet p (rows rs) = judged (numbers rs) (write p (values rs))

unfoldable pub imported : Terms → List ℕ → Imported
imported p text = on_sheet p (sheet_in text)

-- "in import a telegram output under 104"
unfoldable pub import_into : Terms → List ℕ → ℕ → Imported
import_into p text room = cond (leb bytes_needed room) (imported p text) (refused_by (early Room))

abbrev pub size_of : Imported → Reply
size_of (taken es) = Ok (bit_count es)
size_of (refused_by r) = Err (Refused r)
size_of (refused_at k) = Err (Row k)

abbrev pub bytes_over : Imported → List ℕ → List ℕ
bytes_over (taken es) before = writer.bytes_over (accepted es) before
bytes_over (refused_by r) before = before
bytes_over (refused_at k) before = before

-- the promise of `import`
pub record Import (p : Terms) (text before : List ℕ) (reply : Reply) (after : List ℕ) : Type 0 where
  pub answers : in_numbers reply ≡ in_numbers (size_of (import_into p text (length before)))
  pub contents : after ≡ bytes_over (import_into p text (length before)) before
