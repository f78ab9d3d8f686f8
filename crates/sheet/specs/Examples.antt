-- Worked examples of the definitions, each computed by the checker. Assumes nothing.
use Rattle.std.specs.Prelude.{◌≡◌, refl, List, [], ◌∷◌, ◌++◌, ℕ, Ok, Err}
use Rattle.std.proofs.Math.Option.{some, none}
use Rattle.pieces.specs.Pieces.{begins}
use Rattle.pieces.specs.Numbers.{digits_of, places_of, decimal_in, digits_from, sixteen_in, places_from}
use Rattle.format.specs.Fields.{fields, Q_DIR, NID_RADIO, END}
use Rattle.format.specs.Packets.{◌⧺◌, times, header, etcs, ctcs, find}
use Rattle.format.specs.Rules.{begun, next, misdirected, broken, noted, closes, settled, onward, step, radio_from, spot_of, spot_at, place_from, field_place, clash, among, collides_by, paper}
use Rattle.format.specs.Telegrams.{write, from_values, drive, values_in}
use Rattle.format.specs.declared.Kind.TheVariants.{Header, Ended, Repeated}
use Rattle.states.specs.Labels.{numbers_in}
use Rattle.sheet.specs.Rows.{text_of, crlf, heading, label_text, row_text}
use Rattle.sheet.specs.Reading.{row, row_in, rows_in, sheet_in}
use Rattle.sheet.specs.Reading.Rows.{rows, bad}
use Rattle.sheet.specs.Sheets.{imported, size_of}
use Rattle.sheet.specs.declared.SheetError.TheVariants.{Refused, Row}
use Rattle.sheet.specs.Replies.{Reply}

-- `Q_DIR,2,1` and `NID_RADIO,64,08614970020002FF`
rows_written : row_text (record { field = Q_DIR; value = 1 }) ∷ row_text (record { field = NID_RADIO; value = 0x08614970020002FF }) ∷ []
    ≡ (text_of "Q_DIR,2,1" ++ crlf) ∷ (text_of "NID_RADIO,64,08614970020002FF" ++ crlf) ∷ []
unfolding row_text label_text digits_of places_of
rows_written = refl

-- the same read, with something behind it; a zero too many, another width, another name, no CRLF, and a 0 eaten
abbrev read : List ℕ → List ℕ
read text = text ++ crlf ++ text_of "X"

rows_read_lem : row_in (read (text_of "Q_DIR,2,1")) ∷ row_in (read (text_of "NID_RADIO,64,08614970020002FF")) ∷ []
    ≡ some (row 12 1 11) ∷ some (row 35 0x08614970020002FF 31) ∷ []
unfolding row_in fields label_text begins decimal_in digits_from digits_of sixteen_in places_from
rows_read_lem = refl

rows_refused : row_in (read (text_of "Q_DIR,2,01")) ∷ row_in (read (text_of "Q_DIR,3,1")) ∷ row_in (read (text_of "Q_DIRE,2,1")) ∷ row_in (text_of "Q_DIR,2,1") ∷ row_in (read (text_of "NID_RADIO,64,8614970020002FF")) ∷ []
    ≡ none ∷ none ∷ none ∷ none ∷ none ∷ []
unfolding row_in fields label_text begins decimal_in digits_from digits_of sixteen_in places_from
rows_refused = refl

-- an empty text, a heading alone, with a row, and with a row that lacks its CRLF
sheets : sheet_in [] ∷ sheet_in heading ∷ sheet_in (heading ++ text_of "END,8,255" ++ crlf) ∷ sheet_in (heading ++ text_of "END,8,255") ∷ []
    ≡ bad 0 ∷ rows [] ∷ rows (record { field = END; value = 255 } ∷ []) ∷ bad 1 ∷ []
unfolding sheet_in heading begins rows_in row_in fields label_text decimal_in digits_from digits_of sixteen_in places_from
sheets = refl

-- ---- the order of the three stages

abbrev line : List ℕ → List ℕ → List ℕ
line text rest = text ++ crlf ++ rest

-- a header and the end mark, with these three rows in the place of Q_UPDOWN's, M_VERSION's and the end mark's
abbrev sheet_with : List ℕ → List ℕ → List ℕ → List ℕ
sheet_with first second end =
    heading ++ line first (line second (line (text_of "Q_MEDIA,1,0") (line (text_of "N_PIG,3,1") (line (text_of "N_TOTAL,3,2") (line (text_of "M_DUP,2,0")
    (line (text_of "M_MCOUNT,8,30") (line (text_of "NID_C,10,21") (line (text_of "NID_BG,14,4100") (line (text_of "Q_LINK,1,0") (line end []))))))))))

unfoldable answer : List ℕ → Reply
unfolding imported sheet_in heading begins rows_in row_in fields label_text decimal_in digits_from digits_of sixteen_in places_from write drive begun from_values step next find etcs ctcs header times ◌⧺◌ broken misdirected noted settled onward closes radio_from spot_of spot_at place_from field_place collides_by among clash values_in numbers_in
answer text = size_of (imported paper text)

-- a wrong name, a wrong value and a bad row: the row wins, wherever it stands; then the value; then the name
three : answer (sheet_with (text_of "Q_LINK,1,1") (text_of "M_VERSION,7,17") (text_of "END,8,0255"))
    ∷ answer (sheet_with (text_of "Q_LINK,1,1") (text_of "M_VERSION,7,17") (text_of "END,8,255"))
    ∷ answer (sheet_with (text_of "Q_LINK,1,1") (text_of "M_VERSION,7,16") (text_of "END,8,255"))
    ∷ answer (sheet_with (text_of "Q_UPDOWN,1,1") (text_of "M_VERSION,7,16") (text_of "END,8,255"))
    ∷ []
    ≡ Err (Row 11) ∷ Err (Refused (record { kind = Header; place = 1 })) ∷ Err (Row 1) ∷ Ok 58 ∷ []
unfolding answer
three = refl

-- the end mark under the name of a packet's identifier, and no row at all
others : answer (sheet_with (text_of "Q_UPDOWN,1,1") (text_of "M_VERSION,7,16") (text_of "NID_PACKET,8,255")) ∷ answer heading ∷ []
    ≡ Err (Row 11) ∷ Err (Refused (record { kind = Ended; place = 0 })) ∷ []
unfolding answer
others = refl

-- two ETCS-137, the first for one way, and the end mark
abbrev stops : List ℕ → List ℕ
stops way =
    line (text_of "NID_PACKET,8,137") (line (text_of "Q_DIR,2,1") (line (text_of "L_PACKET,13,24") (line (text_of "Q_SRSTOP,1,0")
    (line (text_of "NID_PACKET,8,137") (line way (line (text_of "L_PACKET,13,24") (line (text_of "Q_SRSTOP,1,0") (text_of "END,8,255"))))))))

-- a packet for both ways after one for one way, and a wrong name: the pair wins; without it the name; one for each way
pairs : answer (sheet_with (text_of "Q_LINK,1,1") (text_of "M_VERSION,7,16") (stops (text_of "Q_DIR,2,2")))
    ∷ answer (sheet_with (text_of "Q_LINK,1,1") (text_of "M_VERSION,7,16") (stops (text_of "Q_DIR,2,0")))
    ∷ answer (sheet_with (text_of "Q_UPDOWN,1,1") (text_of "M_VERSION,7,16") (stops (text_of "Q_DIR,2,0")))
    ∷ []
    ≡ Err (Refused (record { kind = Repeated; place = 82 })) ∷ Err (Row 1) ∷ Ok 106 ∷ []
unfolding answer
pairs = refl
