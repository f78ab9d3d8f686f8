-- What the program `sheets in` prints for an input, whole. Definitions alone.
use Rattle.std.specs.Prelude.{◌≡◌, cond, List, [], ◌++◌, ℕ, leb, take, Err}
use Rattle.format.specs.Rules.{paper}
use Rattle.format.specs.Telegrams.{bits}
use Rattle.sheet.specs.Sheets.{Imported, imported}
use Rattle.sheet.specs.Sheets.Imported.{taken, refused_by, refused_at}
use Rattle.packing.specs.Packing.{characters}
use Rattle.line_text.specs.Lines.{newline, refusal}
use Rattle.sheet.specs.declared.SheetError.TheVariants.{Refused, Row}

abbrev pub line_or : Imported → List ℕ
line_or (taken es) = characters (bits es) ++ newline
line_or (refused_by r) = refusal (Err (Refused r))
line_or (refused_at k) = refusal (Err (Row k))

unfoldable pub in_text : List ℕ → List ℕ
in_text input = line_or (imported paper input)

-- what is put into a text of so many bytes: nothing where not every line has room
unfoldable pub in_into : List ℕ → ℕ → List ℕ
in_into input room = cond (leb 1024 room) (in_text input) []

-- the first m bytes of a sheet tell what is printed for it
pub record TellsSheet (m : ℕ) : Type 0 where
  pub tells : (input : List ℕ) → in_text (take m input) ≡ in_text input
