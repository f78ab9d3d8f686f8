-- Bytes with a field written over them. Definitions alone.
use Rattle.std.specs.Prelude.{◌≡◌, List, ◌++◌, Bool, true, false, ◌&&◌, ℕ, ◌+◌, ◌*◌, ◌^◌, length, take, drop, leb, ltb}
use Rattle.bits.specs.Bits.{digits, bits_of, bytes_of}

-- the field is no wider than a number of the code, ends by the last bit of the bytes, and holds the value
abbrev pub writable : List ℕ → ℕ → ℕ → ℕ → Bool
writable s at width value = leb width 64 && leb (at + width) (8 * length s) && ltb value (2 ^ width)

-- a bit string with the width bits of a value in the place of those from at on
unfoldable pub over : List ℕ → ℕ → ℕ → ℕ → List ℕ
over bs at width value = take at bs ++ (digits width value ++ drop (at + width) bs)

abbrev pub bytes_if : Bool → List ℕ → List ℕ → List ℕ
bytes_if true new old = new
bytes_if false new old = old

-- the bytes with the field written over their bits, or as they were where it cannot be written
unfoldable pub put_at : List ℕ → ℕ → ℕ → ℕ → List ℕ
put_at s at width value = bytes_if (writable s at width value) (bytes_of (over (bits_of s) at width value)) s

-- the same of a short field in four bytes or more; else they stay as they were
abbrev pub laid_at : List ℕ → ℕ → ℕ → ℕ → List ℕ
laid_at s at width value = bytes_if (leb width 25 && leb 4 (length s)) (put_at s at width value) s

-- the promise of `put`: what it answers, and what the lent bytes then hold
pub record Put (before : List ℕ) (at width value : ℕ) (wrote : Bool) (after : List ℕ) : Type 0 where
  pub answer : wrote ≡ writable before at width value
  pub contents : after ≡ put_at before at width value
