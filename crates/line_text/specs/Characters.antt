-- A bit string as the characters of a line. Definitions alone.
use Rattle.std.specs.Prelude.{cond, List, [], ℕ, ◌*◌, leb, length, take}
use Rattle.bits.specs.Bits.{bits_of}
use Rattle.packing.specs.Packing.{characters}

-- the first n bits of some bytes, put into a text of so many characters; nothing where there are fewer bits or less room
unfoldable pub characters_into : List ℕ → ℕ → ℕ → List ℕ
characters_into s n room = cond (leb n (8 * length s)) (cond (leb n room) (characters (take n (bits_of s))) []) []
