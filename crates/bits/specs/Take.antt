-- What taking a field at a position finds, and what going past bits does. Definitions alone.
use Rattle.std.specs.Prelude.{List, Bool, true, false, cond, ◌&&◌, ℕ, ◌+◌, ◌*◌, length, take, drop, leb, Some, None, Option}
use Rattle.bits.specs.Bits.{value_of, bits_of}
use Rattle.bits.specs.declared.Cursor.{Cursor}

-- a whole field lies there: it is no wider than a number of the code, ends by bit n, and the bytes hold n bits
abbrev pub inside : List ℕ → ℕ → ℕ → ℕ → Bool
inside s n width at = leb width 64 && leb (at + width) n && leb n (8 * length s)

-- the width bits of the bytes s from the bit at on
abbrev pub field_bits : List ℕ → ℕ → ℕ → List ℕ
field_bits s width at = take width (drop at (bits_of s))

abbrev pub taken_if : Bool → Option (ℕ × Cursor) → Option (ℕ × Cursor)
taken_if true t = t
taken_if false t = None

-- the number of those bits with the position past them, where a whole field lies there; else Short
unfoldable pub taken_at : List ℕ → ℕ → ℕ → ℕ → Option (ℕ × Cursor)
taken_at s n width at =
    taken_if (inside s n width at) (Some (value_of (field_bits s width at), record { at = at + width }))

-- the position past so many bits, where they end by bit n; else Lacking
unfoldable pub skip_at : ℕ → ℕ → ℕ → Option Cursor
skip_at n bits at = cond (leb (at + bits) n) (Some (record { at = at + bits })) None
