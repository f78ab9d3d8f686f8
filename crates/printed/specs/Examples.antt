-- Worked examples of the definitions, each computed by the checker. Assumes nothing.
use Rattle.std.specs.Prelude.{◌≡◌, refl, [], ◌∷◌, ◌++◌}
use Rattle.pieces.specs.Numbers.{digits_of}
use Rattle.packing.specs.Packing.{binary}
use Rattle.states.specs.Reader.{checked}
use Rattle.sheet.specs.Rows.{text_of}
use Rattle.line_text.specs.Lines.{newline, refusal, line_length}
use Rattle.printed.specs.Printed.{told, out_text, out_into}

-- too short, another character, nothing
outs : out_text (text_of "01" ++ newline) ∷ out_text (text_of "0x") ∷ out_text [] ∷ []
    ≡ (text_of "refused 2 0" ++ newline) ∷ (text_of "refused 2 0" ++ newline) ∷ (text_of "refused 2 0" ++ newline) ∷ []
unfolding out_text line_length told binary checked refusal digits_of
outs = refl

-- a byte too little room for every sheet
roomless : out_into (text_of "01") 65535 ≡ []
unfolding out_into
roomless = refl
