-- Worked examples of the definitions, each computed by the checker. Assumes nothing.
use Rattle.std.specs.Prelude.{◌≡◌, refl, [], ◌++◌}
use Rattle.pieces.specs.Numbers.{digits_of}
use Rattle.pieces.specs.Pieces.{begins}
use Rattle.sheet.specs.Rows.{text_of, heading}
use Rattle.sheet.specs.Reading.{sheet_in}
use Rattle.sheet.specs.Sheets.{imported}
use Rattle.line_text.specs.Lines.{newline, refusal}
use Rattle.printed_in.specs.Sheet.{in_text, in_into}

-- no header
ins : in_text (text_of "x") ≡ text_of "refused 20 0" ++ newline
unfolding in_text imported sheet_in heading begins refusal digits_of
ins = refl

-- a byte too little room for every line
roomless : in_into (text_of "x") 1023 ≡ []
unfolding in_into
roomless = refl
