-- Worked examples of the definitions, each computed by the checker. Assumes nothing.
use Rattle.std.specs.Prelude.{◌≡◌, refl, [], ◌∷◌, Some, None}
use Rattle.bits.specs.Bits.{digits, value_of, bits_of, bytes_for, filled, packed, bytes_of}
use Rattle.bits.specs.Take.{taken_at, skip_at}
use Rattle.bits.specs.Put.{over, put_at}

values : value_of [] ∷ value_of (1 ∷ 1 ∷ 0 ∷ []) ∷ value_of (0 ∷ 0 ∷ 1 ∷ []) ∷ [] ≡ 0 ∷ 6 ∷ 1 ∷ []
unfolding value_of
values = refl

-- of 13, which needs four bits, three bits are the lowest three
numbers : digits 0 5 ∷ digits 4 5 ∷ digits 3 13 ∷ [] ≡ [] ∷ (0 ∷ 1 ∷ 0 ∷ 1 ∷ []) ∷ (1 ∷ 0 ∷ 1 ∷ []) ∷ []
unfolding digits
numbers = refl

two_bytes : bits_of (0x90 ∷ 0x02 ∷ []) ≡ 1 ∷ 0 ∷ 0 ∷ 1 ∷ 0 ∷ 0 ∷ 0 ∷ 0 ∷ 0 ∷ 0 ∷ 0 ∷ 0 ∷ 0 ∷ 0 ∷ 1 ∷ 0 ∷ []
unfolding digits bits_of
two_bytes = refl

counts : bytes_for 0 ∷ bytes_for 1 ∷ bytes_for 8 ∷ bytes_for 58 ∷ bytes_for 830 ∷ [] ≡ 0 ∷ 1 ∷ 1 ∷ 8 ∷ 104 ∷ []
counts = refl

-- eleven bits take two bytes, and the five low bits of the second are 0
last_byte_filled : bytes_of (1 ∷ 0 ∷ 0 ∷ 1 ∷ 0 ∷ 0 ∷ 0 ∷ 0 ∷ 1 ∷ 1 ∷ 1 ∷ []) ≡ 0x90 ∷ 0xe0 ∷ []
unfolding value_of filled packed bytes_of
last_byte_filled = refl

-- inside one byte, over a byte's edge, over nine bytes, of no bits at the end; then too wide, past n, and n past the bytes
fields : taken_at (0xab ∷ 0xcd ∷ []) 16 3 1 ∷ taken_at (0xab ∷ 0xcd ∷ []) 16 8 4
    ∷ taken_at (0x01 ∷ 0x23 ∷ 0x45 ∷ 0x67 ∷ 0x89 ∷ 0xab ∷ 0xcd ∷ 0xef ∷ 0x12 ∷ []) 72 64 4 ∷ taken_at (0xab ∷ []) 8 0 8
    ∷ taken_at (0x01 ∷ 0x23 ∷ 0x45 ∷ 0x67 ∷ 0x89 ∷ 0xab ∷ 0xcd ∷ 0xef ∷ 0x12 ∷ []) 72 65 0
    ∷ taken_at (0xab ∷ 0xcd ∷ []) 11 8 4 ∷ taken_at (0xab ∷ 0xcd ∷ []) 17 8 4 ∷ []
    ≡ Some (2, record { at = 4 }) ∷ Some (0xbc, record { at = 12 })
    ∷ Some (0x123456789abcdef1, record { at = 68 }) ∷ Some (0, record { at = 8 })
    ∷ None ∷ None ∷ None ∷ []
unfolding digits value_of bits_of taken_at
fields = refl

-- up to bit n, past more bits than a number has, of no bits, and one bit past n
skips : skip_at 16 12 4 ∷ skip_at 830 100 58 ∷ skip_at 8 0 8 ∷ skip_at 16 13 4 ∷ []
    ≡ Some (record { at = 16 }) ∷ Some (record { at = 158 }) ∷ Some (record { at = 8 }) ∷ None ∷ []
unfolding skip_at
skips = refl

-- over a byte's edge; then a value that does not fit, a field past the end and one that is too wide, which change nothing
written : put_at (0xff ∷ 0xff ∷ []) 4 8 0x12 ∷ put_at (0xff ∷ 0xff ∷ []) 4 8 256 ∷ put_at (0xff ∷ 0xff ∷ []) 9 8 0
    ∷ put_at (0xff ∷ 0xff ∷ []) 0 65 0 ∷ []
    ≡ (0xf1 ∷ 0x2f ∷ []) ∷ (0xff ∷ 0xff ∷ []) ∷ (0xff ∷ 0xff ∷ []) ∷ (0xff ∷ 0xff ∷ []) ∷ []
unfolding digits value_of bits_of filled packed bytes_of over put_at
written = refl
