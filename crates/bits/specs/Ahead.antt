-- What lies ahead of a position, as one number of 64 bits, and the fields in it. Definitions alone.
use Rattle.std.specs.Prelude.{List, Bool, cond, ◌&&◌, ℕ, ◌+◌, ◌-◌, ◌*◌, ◌/◌, ◌%◌, ◌^◌, min, length, drop, leb, Some, Option}
use Rattle.bits.specs.Bits.{value_of, bits_of, filled}
use Rattle.bits.specs.Take.{inside, field_bits, taken_if}
use Rattle.bits.specs.declared.Cursor.{Cursor}

-- the byte at which the window of a position begins: its own, or the eighth from the last
abbrev pub window_byte : List ℕ → ℕ → ℕ
window_byte s at = min (at / 8) (length s - 8)

-- the eight bytes from there on, moved up so that the bit at stands in front
abbrev pub window_at : List ℕ → ℕ → ℕ
window_at s at = value_of (field_bits s 64 (8 * window_byte s at)) * 2 ^ (at - 8 * window_byte s at) % 2 ^ 64

-- the b bits of a window that stand behind its o highest
abbrev pub behind : ℕ → ℕ → ℕ → ℕ
behind w o b = w * 2 ^ o % 2 ^ 64 / 2 ^ (64 - b)

-- so many bits lie there, and a window holds them wherever they begin
abbrev pub in_sight : List ℕ → ℕ → ℕ → ℕ → Bool
in_sight s n bits at = leb 1 bits && leb bits 57 && leb 8 (length s) && inside s n bits at

-- the window of a position with the position past so many bits, where they lie in it; else Short
unfoldable pub ahead_at : List ℕ → ℕ → ℕ → ℕ → Option (ℕ × Cursor)
ahead_at s n bits at = taken_if (in_sight s n bits at) (Some (window_at s at, record { at = at + bits }))

-- the window of a position, wherever it is; nothing of fewer than eight bytes
abbrev pub seen_at : List ℕ → ℕ → ℕ
seen_at s at = cond (leb 8 (length s)) (window_at s at) 0

-- the number in the b bits from a position on, with 0 for each that the bytes do not have
abbrev pub number_at : List ℕ → ℕ → ℕ → ℕ
number_at s b at = value_of (filled b (drop at (bits_of s)))
