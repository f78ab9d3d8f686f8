-- Worked claims: rows that are refused by 20, bytes that are accepted and such that are refused by 2, 3, 5 and 11, each by what the checker computes of
-- them. Assumes nothing.
use Rattle.std.specs.Prelude.{Err}
use mathlib.Core.Path.{◌≡◌, refl}
use mathlib.Core.List.{List, [], ◌∷◌, ◌++◌}
use Prim.Native.Nat.{ℕ}
use Rattle.bits.specs.Bits.{digits, value_of, bits_of}
use Rattle.pieces.specs.Pieces.{begins}
use Rattle.pieces.specs.Numbers.{digits_of, decimal_in, digits_from, sixteen_in, places_from}
use Rattle.format.specs.Fields.{fields}
use Rattle.format.specs.Packets.{◌⧺◌, times, header, etcs, ctcs, find}
use Rattle.format.specs.Rules.{begun, next, misdirected, broken, noted, closes, settled, onward, step, radio_from, spot_of, spot_at, place_from, field_place, clash, among, collides_by, paper}
use Rattle.format.specs.Telegrams.{Entry, read, write, from_bits, from_values, drive, bits_in, values_in}
use Rattle.format.specs.Telegrams.Result.{refused}
use Rattle.format.specs.declared.Kind.{Kind}
use Rattle.format.specs.declared.Kind.TheVariants.{Size, Padding, Ended, Trailing}
use Rattle.states.specs.Labels.{numbers_in}
use Rattle.states.specs.Reader.{checked}
use Rattle.sheet.specs.Rows.{text_of, crlf, heading, label_text}
use Rattle.sheet.specs.Reading.{row_in, rows_in, sheet_in}
use Rattle.sheet.specs.Sheets.{number_of, imported}
use Rattle.entrances.specs.Entrances.{BytesGiven, BytesAccepted}
use Rattle.entrances.specs.Rows.{RowGiven}
use Rattle.entrances.proofs.Bytes.{check_judged}
use Rattle.entrances.proofs.Rows.{imported_row}
use Rattle.sheet.specs.declared.SheetError.TheVariants.{Refused, Row}

abbrev line : List ℕ → List ℕ → List ℕ
line text rest = text ++ crlf ++ rest

-- a header and the end mark, with this row in the place of the first and this one in the place of the last
abbrev sheet_with : List ℕ → List ℕ → List ℕ
sheet_with first end =
    heading ++ line first (line (text_of "M_VERSION,7,16") (line (text_of "Q_MEDIA,1,0") (line (text_of "N_PIG,3,1") (line (text_of "N_TOTAL,3,2")
    (line (text_of "M_DUP,2,0") (line (text_of "M_MCOUNT,8,30") (line (text_of "NID_C,10,21") (line (text_of "NID_BG,14,4100") (line (text_of "Q_LINK,1,0")
    (line end []))))))))))

-- no header
none_there : RowGiven [] 0
unfolding imported sheet_in heading begins
none_there = (imported_row [] 0).0 refl

-- another name in the first row, and a zero too many in the last: the last, which is no row; without it the first
needless_zero : RowGiven (sheet_with (text_of "Q_LINK,1,1") (text_of "END,8,0255")) 11
unfolding imported sheet_in heading begins rows_in row_in fields label_text decimal_in digits_from digits_of sixteen_in places_from
needless_zero = (imported_row (sheet_with (text_of "Q_LINK,1,1") (text_of "END,8,0255")) 11).0 refl

another_name : RowGiven (sheet_with (text_of "Q_LINK,1,1") (text_of "END,8,255")) 1
unfolding imported sheet_in heading begins rows_in row_in fields label_text decimal_in digits_from digits_of sixteen_in places_from write drive begun from_values step next find etcs ctcs header times ◌⧺◌ broken misdirected noted settled onward closes radio_from spot_of spot_at place_from field_place collides_by among clash values_in numbers_in
another_name = (imported_row (sheet_with (text_of "Q_LINK,1,1") (text_of "END,8,255")) 1).0 refl

-- the number of a row
twenty : number_of (Err (Row 7)) ≡ 20
twenty = refl

-- ---- bytes and n: the header of case 1, and two bytes more

abbrev bytes : ℕ → ℕ → List ℕ
bytes a b = 0x90 ∷ 0x02 ∷ 0x7F ∷ 0x81 ∷ 0x25 ∷ 0xDF ∷ a ∷ b ∷ []

abbrev claimed : List ℕ → ℕ → Kind → ℕ → Type 0
claimed s n k x = BytesGiven s n (record { kind = k; place = x })

abbrev shown : (s : List ℕ) (n : ℕ) (k : Kind) (x : ℕ) → checked paper s n ≡ refused (record { kind = k; place = x }) → claimed s n k x
shown s n k x e = ((check_judged s n).refuses (record { kind = k; place = x })).0 e

-- case 1 is accepted. Case 2: with C1 last; with n = 59; with n = 57. And ETCS-254 that ends in its L_PACKET
case_1 : (es : List Entry) × BytesAccepted (bytes 0xFF 0xC0) 58 es
unfolding checked read drive begun from_bits bits_in bits_of digits value_of step next find etcs ctcs header times ◌⧺◌ broken misdirected noted settled onward closes
case_1 = (_, ((check_judged (bytes 0xFF 0xC0) 58).accepts _).0 refl)

case_2 : claimed (bytes 0xFF 0xC1) 58 Padding 0 × claimed (bytes 0xFF 0xC0) 59 Trailing 58 × claimed (bytes 0xFF 0xC0) 57 Size 0
unfolding checked read drive begun from_bits bits_in bits_of digits value_of spot_of spot_at place_from field_place step next find etcs ctcs header times ◌⧺◌ broken misdirected noted settled onward closes radio_from collides_by among clash
case_2 = (
  shown (bytes 0xFF 0xC1) 58 Padding 0 refl,
  shown (bytes 0xFF 0xC0) 59 Trailing 58 refl,
  shown (bytes 0xFF 0xC0) 57 Size 0 refl,
)

ends_inside : claimed (bytes 0xFF 0xA0) 62 Ended 60
unfolding checked read drive begun from_bits bits_in bits_of digits value_of spot_of spot_at place_from field_place step next find etcs ctcs header times ◌⧺◌ broken misdirected noted settled onward closes radio_from collides_by among clash
ends_inside = shown (bytes 0xFF 0xA0) 62 Ended 60 refl
