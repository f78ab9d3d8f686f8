-- Worked examples of the definitions, each computed by the checker. Assumes nothing.
use Rattle.std.specs.Prelude.{◌≡◌, refl, [], ◌∷◌, ◌++◌, Err}
use Rattle.bits.specs.Bits.{digits, bits_of}
use Rattle.format.specs.declared.Kind.TheVariants.{Trailing}
use Rattle.pieces.specs.Numbers.{digits_of}
use Rattle.sheet.specs.Rows.{text_of}
use Rattle.line_text.specs.Lines.{newline, line_length, refusal, refusal_into}
use Rattle.packing.specs.Packing.{characters}
use Rattle.line_text.specs.Characters.{characters_into}
use Rattle.sheet.specs.declared.SheetError.TheVariants.{Refused, Row}

-- rule 11 at bit 58, and row 17 of a sheet
refusals : refusal (Err (Refused (record { kind = Trailing; place = 58 }))) ∷ refusal (Err (Row 17)) ∷ []
    ≡ (text_of "refused 11 58" ++ newline) ∷ (text_of "refused 20 17" ++ newline) ∷ []
unfolding refusal digits_of
refusals = refl

-- one newline is no part of the line, and one alone: behind `01`, behind `01` and a newline, behind nothing; `01` and nothing at all
lines : line_length (text_of "01" ++ newline) ∷ line_length (text_of "01" ++ newline ++ newline) ∷ line_length newline ∷ line_length (text_of "01") ∷ line_length [] ∷ []
    ≡ 2 ∷ 3 ∷ 0 ∷ 2 ∷ 0 ∷ []
unfolding line_length
lines = refl

-- room for 63 characters, and for 64
roomless : refusal_into (Err (Row 17)) 63 ∷ refusal_into (Err (Row 17)) 64 ∷ [] ≡ [] ∷ refusal (Err (Row 17)) ∷ []
unfolding refusal_into
roomless = refl

line : characters (1 ∷ 0 ∷ 0 ∷ 1 ∷ []) ≡ text_of "1001"
line = refl

-- four bits of a byte, with room and without; nine bits, which it has not
put : characters_into (144 ∷ []) 4 4 ∷ characters_into (144 ∷ []) 4 3 ∷ characters_into (144 ∷ []) 9 9 ∷ [] ≡ text_of "1001" ∷ [] ∷ [] ∷ []
unfolding characters_into digits bits_of
put = refl
