-- Numbers in telegrams that lie one behind the other. Definitions alone.
use Rattle.std.specs.Prelude.{Bool, cond, ◌&&◌, ◌||◌, List, ℕ, ◌*◌, eqb, leb, length, take, drop, Some, None, Option}
use Rattle.bits.specs.Bits.{bits_of, same}
use Rattle.bits.specs.Take.{taken_at}
use Rattle.bits.specs.declared.Cursor.{Cursor}

-- what was taken, and 0 where there is nothing
abbrev pub number_or0 : Option (ℕ × Cursor) → ℕ
number_or0 (Some (v, c)) = v
number_or0 None = 0

-- the number in the width bits from a bit on, of the n bits in front of these bytes
abbrev pub number_at : List ℕ → ℕ → ℕ → ℕ → ℕ
number_at u n bit width = number_or0 (taken_at u n width bit)

-- the first 32 bits of the telegram in front of these bytes
abbrev pub front_of : List ℕ → ℕ
front_of u = number_at u 58 0 32

-- the telegram in front of these bytes has this identity, NID_C, NID_BG and Q_LINK from bit 25 on, and this N_TOTAL
abbrev pub belongs_to : List ℕ → ℕ → ℕ → Bool
belongs_to u whose total = eqb whose (number_at u 58 25 25) && eqb (number_at u 58 12 3) total

-- n bits in front of the bytes u and m in front of the bytes v are there, and the same behind the 50 of a header
abbrev pub same_bodies : List ℕ → ℕ → List ℕ → ℕ → Bool
same_bodies u n v m =
    eqb n m
    && (leb n (8 * length u) && (leb n (8 * length v) && same (drop 50 (take n (bits_of u))) (drop 50 (take n (bits_of v)))))

-- two M_MCOUNT match: "all counters other than 255 must be equal"
abbrev pub counters_match : ℕ → ℕ → Bool
counters_match a c = eqb a 255 || (eqb c 255 || eqb a c)

-- which those to come must match, after a and then c
abbrev pub latest_of : ℕ → ℕ → ℕ
latest_of a c = cond (eqb c 255) a c
