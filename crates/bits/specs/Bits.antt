-- Bit strings, the numbers that fields hold, and the bits of bytes. Definitions alone.
-- A bit string is a list of the numbers 0 and 1 in order of sending.
use Rattle.std.specs.Prelude.{Bool, true, false, ◌&&◌, List, [], ◌∷◌, ◌++◌, ℕ, zero, suc, ◌+◌, ◌*◌, ◌/◌, ◌%◌, ◌^◌, ◌<◌, eqb, length, drop}

-- "Multi-bit fields have their highest bit first": the number that a list of bits is
unfoldable pub value_of : List ℕ → ℕ
value_of [] = 0
value_of (b ∷ bs) = b * 2 ^ length bs + value_of bs

-- the w bits of a number, highest first; of a number that does not fit, its w lowest
unfoldable pub digits : ℕ → ℕ → List ℕ
digits zero v = []
digits (suc w) v = v / 2 ^ w % 2 ∷ digits w v

-- "in bytes, first bit in the highest bit of byte 0": the bits of a list of bytes
unfoldable pub bits_of : List ℕ → List ℕ
bits_of [] = []
bits_of (x ∷ xs) = digits 8 x ++ bits_of xs

-- ceil(n / 8): how many bytes n bits take
abbrev pub bytes_for : ℕ → ℕ
bytes_for n = (n + 7) / 8

-- the first k bits of a bit string, with 0 for each that it does not have
unfoldable pub filled : ℕ → List ℕ → List ℕ
filled zero bs = []
filled (suc k) [] = 0 ∷ filled k []
filled (suc k) (b ∷ bs) = b ∷ filled k bs

-- the first k bytes of a bit string
unfoldable pub packed : ℕ → List ℕ → List ℕ
packed zero bs = []
packed (suc k) bs = value_of (filled 8 bs) ∷ packed k (drop 8 bs)

-- "Unused low bits of the last byte are 0": the bytes of a bit string
unfoldable pub bytes_of : List ℕ → List ℕ
bytes_of bs = packed (bytes_for (length bs)) bs

-- each number of a list is below k: a list of bits is Below 2, a list of bytes Below 256
abbrev pub Below : ℕ → List ℕ → Type 0
Below k [] = Unit
Below k (x ∷ xs) = (x < k) × Below k xs

-- whether two lists hold the same numbers
abbrev pub same : List ℕ → List ℕ → Bool
same [] [] = true
same [] (y ∷ ys) = false
same (x ∷ xs) [] = false
same (x ∷ xs) (y ∷ ys) = eqb x y && same xs ys
