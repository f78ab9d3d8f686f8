-- The line of an input, and the line of a refusal. Definitions alone.
use Rattle.std.specs.Prelude.{cond, List, [], ◌∷◌, ◌++◌, ℕ, ◌-◌, eqb, leb, length, get_or}
use Rattle.pieces.specs.Numbers.{decimal}
use Rattle.sheet.specs.Rows.{text_of}
use Rattle.sheet.specs.Sheets.{in_numbers}
use Rattle.sheet.specs.Replies.{Reply}

abbrev pub newline : List ℕ
newline = 10 ∷ []

-- how much of an input is its line: all but a newline at its end
unfoldable pub line_length : List ℕ → ℕ
line_length input = cond (eqb (get_or input (length input - 1) 0) 10) (length input - 1) (length input)

-- `refused NUMBER PLACE`; of a row of a sheet, `refused 20 ROW`
unfoldable pub refusal : Reply → List ℕ
refusal r = text_of "refused " ++ decimal (in_numbers r).0 ++ text_of " " ++ decimal (in_numbers r).1 ++ newline

-- what is put of it into a text of so many characters: nothing under 64, in which every refusal has room
unfoldable pub refusal_into : Reply → ℕ → List ℕ
refusal_into r room = cond (leb 64 room) (refusal r) []
