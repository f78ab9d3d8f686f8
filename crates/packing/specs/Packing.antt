-- Lines of characters as bit strings, their bytes in front of what is lent, and bits as characters again. Definitions alone.
use Rattle.std.specs.Prelude.{◌≡◌, Bool, true, cond, ◌&&◌, List, [], ◌∷◌, ◌++◌, map, ℕ, eqb, leb, length, drop, Some, None, Option, Ok, Err, Result}
use Rattle.bits.specs.Bits.{bytes_for, bytes_of}
use Rattle.bits.specs.declared.Cursor.{Cursor}
use Rattle.packing.specs.declared.PackError.TheVariants.{Other, Room}
use Rattle.packing.specs.declared.PackError.{PackError}

-- "characters 0 and 1": 48 and 49
abbrev pub is_bit : ℕ → Bool
is_bit c = leb 48 c && leb c 49

unfoldable pub binary : List ℕ → Bool
binary [] = true
binary (c ∷ cs) = is_bit c && binary cs

abbrev pub bit_of : ℕ → ℕ
bit_of c = cond (eqb c 49) 1 0

-- the bit string that a line writes
abbrev pub bits_in : List ℕ → List ℕ
bits_in line = map bit_of line

-- what is lent has the bytes of a line
abbrev pub roomy : List ℕ → List ℕ → Bool
roomy line before = leb (bytes_for (length line)) (length before)

-- the bytes of a line in front, and behind them what was there
unfoldable pub bytes_over : List ℕ → List ℕ → List ℕ
bytes_over line before = bytes_of (bits_in line) ++ drop (bytes_for (length line)) before

unfoldable pub packed_of : List ℕ → List ℕ → Result ℕ PackError
packed_of line before = cond (binary line) (cond (roomy line before) (Ok (length line)) (Err Room)) (Err Other)

unfoldable pub pack_into : List ℕ → List ℕ → List ℕ
pack_into line before = cond (binary line) (cond (roomy line before) (bytes_over line before) before) before

-- the promise of `pack`: what it answers, and what the lent bytes then hold
pub record Pack (line before : List ℕ) (answered : Result ℕ PackError) (after : List ℕ) : Type 0 where
  pub answer : answered ≡ packed_of line before
  pub contents : after ≡ pack_into line before

-- ---- bits as characters

abbrev pub character_of : ℕ → ℕ
character_of b = cond (eqb b 1) 49 48

-- the line that a bit string is
abbrev pub characters : List ℕ → List ℕ
characters bs = map character_of bs

-- the character of a field of one bit; where there is none, 0
abbrev pub character_in : Option (ℕ × Cursor) → ℕ
character_in (Some (b, c)) = character_of b
character_in None = 48
