-- The shortest telegram as C sees it, and what is refused at once and at its end, by computation.
use Rattle.std.specs.Prelude.{◌≡◌, refl, List, [], ◌∷◌, ℕ, ◌+◌, ◌*◌}
use Rattle.bits.specs.Bits.{digits, value_of, bits_of}
use Rattle.format.specs.Packets.{header, etcs, find}
use Rattle.format.specs.Rules.{begun, next, broken, noted, closes, settled, onward, step, spot_of, spot_at, place_from, field_place, paper}
use Rattle.format.specs.Telegrams.{values_in, from_bits, drive, read}
use Rattle.states.specs.Reader.{checked}
use Rattle.sinkerpost.specs.Codes.{check_code}

-- a header and the end mark, with a last byte
abbrev empty : ℕ → List ℕ
empty b = 144 ∷ 20 ∷ 15 ∷ 2 ∷ 168 ∷ 2 ∷ 63 ∷ b ∷ []

-- accepted; an unused bit that is 1; a bit more, behind the end mark; a bit less
answers : (check_code paper (empty 192) 58 ≡ 0)
    × (check_code paper (empty 194) 58 ≡ 1024 * 3)
    × (check_code paper (empty 192) 59 ≡ 1024 * 11 + 58)
    × (check_code paper (empty 192) 57 ≡ 1024 * 2)
unfolding checked bits_of digits value_of read drive begun header from_bits step broken onward next noted settled closes find etcs spot_of spot_at place_from field_place values_in
answers = (refl, refl, refl, refl)
