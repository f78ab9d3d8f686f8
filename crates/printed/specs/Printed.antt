-- What the program `sheets out` prints for an input, whole. Definitions alone.
use Rattle.std.specs.Prelude.{◌≡◌, cond, List, [], ℕ, leb, length, take, Err}
use Rattle.bits.specs.Bits.{bytes_of}
use Rattle.format.specs.Rules.{paper}
use Rattle.format.specs.Telegrams.{Result}
use Rattle.format.specs.Telegrams.Result.{accepted, refused}
use Rattle.format.specs.declared.Kind.TheVariants.{Size}
use Rattle.packing.specs.Packing.{binary, bits_in}
use Rattle.sheet.specs.Rows.{sheet_text}
use Rattle.states.specs.Reader.{at_once, checked}
use Rattle.line_text.specs.Lines.{line_length, refusal}
use Rattle.sheet.specs.declared.SheetError.TheVariants.{Refused}

-- the telegram that a line writes, or what refuses it: another character as a wrong length does
unfoldable pub told : List ℕ → Result
told line = cond (binary line) (checked paper (bytes_of (bits_in line)) (length line)) (at_once Size)

abbrev pub sheet_or : Result → List ℕ
sheet_or (accepted es) = sheet_text es
sheet_or (refused r) = refusal (Err (Refused r))

unfoldable pub out_text : List ℕ → List ℕ
out_text input = sheet_or (told (take (line_length input) input))

-- what is put into a text of so many bytes: nothing where not every sheet has room
unfoldable pub out_into : List ℕ → ℕ → List ℕ
out_into input room = cond (leb 65536 room) (out_text input) []

-- the first m bytes of an input tell what is printed for it
pub record TellsLine (m : ℕ) : Type 0 where
  pub tells : (input : List ℕ) → out_text (take m input) ≡ out_text input
