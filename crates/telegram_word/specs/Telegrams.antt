-- "A TELEGRAM is a word of one of two forms": its bytes and n, and those bytes put into what is lent. Definitions alone.
use Rattle.std.specs.Prelude.{◌≡◌, Bool, true, cond, ◌&&◌, List, [], ◌∷◌, ◌++◌, ℕ, suc, ◌+◌, ◌-◌, ◌*◌, ◌%◌, eqb, leb, ltb, length, take, drop, Some, None, Ok, Err, Result}
use Rattle.std.proofs.Math.Option.{Option, some, none}
use Rattle.bits.specs.Bits.{bytes_of}
use Rattle.packing.specs.Packing.{binary, bits_in}
use Rattle.words.specs.Words.{up_to, number_in}
use Rattle.std.specs.Prelude as code
use Rattle.packing.specs.declared.PackError.TheVariants.{Other, Room}
use Rattle.packing.specs.declared.PackError.{PackError}

-- what a telegram word says: bytes as they are lent, and a count of bits that need not fit them
pub record Telegram : Type 0 where
  pub bytes : List ℕ
  pub n : ℕ

abbrev pub telegram : List ℕ → ℕ → Telegram
telegram bytes n = record { bytes = bytes; n = n }

abbrev pub within : ℕ → ℕ → ℕ → Bool
within least greatest v = leb least v && leb v greatest

-- ---- bits

-- "1 to 1,024 characters 0 and 1. n is their count; they are packed into ceil(n/8) bytes, unused bits 0"
unfoldable pub bits_form : List ℕ → Option Telegram
bits_form word = cond (within 1 1024 (length word) && binary word) (some (telegram (bytes_of (bits_in word)) (length word))) none

-- ---- HEX:n

-- "0 to 9, A to F, a to f", which are 48 to 57, 65 to 70 and 97 to 102: what a character stands for, and 16 for any other
unfoldable pub hex_of : ℕ → ℕ
hex_of c = cond (within 48 57 c) (c - 48) (cond (within 65 70 c) (10 + (c - 65)) (cond (within 97 102 c) (10 + (c - 97)) 16))

unfoldable pub hexed : List ℕ → Bool
hexed [] = true
hexed (c ∷ text) = ltb (hex_of c) 16 && hexed text

-- "two characters each, 0 to 128 bytes"
unfoldable pub in_pairs : List ℕ → Bool
in_pairs text = leb (length text) 256 && (eqb (length text % 2) 0 && hexed text)

unfoldable pub bytes_in : List ℕ → List ℕ
bytes_in [] = []
bytes_in (a ∷ []) = []
bytes_in (a ∷ b ∷ text) = (16 * hex_of a + hex_of b) ∷ bytes_in text

abbrev pub counted : List ℕ → code.Option ℕ → Option Telegram
counted bytes None = none
counted bytes (Some n) = some (telegram bytes n)

-- "the bytes as they are lent; a colon; n, a number below 2^64": what stands in front of the colon, and what stands behind it
abbrev pub hex_and : List ℕ → List ℕ → Option Telegram
hex_and hex number = cond (in_pairs hex) (counted (bytes_in hex) (number_in number)) none

-- the first colon (58) counts; of a word without one no number is left
unfoldable pub hex_form : List ℕ → Option Telegram
hex_form word = hex_and (take (up_to 58 word) word) (drop (suc (up_to 58 word)) word)

-- ---- either

abbrev pub either : Option Telegram → Option Telegram → Option Telegram
either none second = second
either (some t) second = some t

unfoldable pub telegram_in : List ℕ → Option Telegram
telegram_in word = either (bits_form word) (hex_form word)

-- ---- put into what is lent

abbrev pub roomy : Telegram → List ℕ → Bool
roomy t before = leb (length t.bytes) (length before)

abbrev pub lent_of : Option Telegram → List ℕ → Result (ℕ × ℕ) PackError
lent_of none before = Err Other
lent_of (some t) before = cond (roomy t before) (Ok (length t.bytes, t.n)) (Err Room)

-- the bytes in front, and behind them what was there; all of that where there is no telegram, or no room for it
abbrev pub lent_over : Option Telegram → List ℕ → List ℕ
lent_over none before = before
lent_over (some t) before = cond (roomy t before) (t.bytes ++ drop (length t.bytes) before) before

-- what is answered, and what the lent bytes then hold
pub record Lends (t : Option Telegram) (before : List ℕ) (answered : Result (ℕ × ℕ) PackError) (after : List ℕ) : Type 0 where
  pub answer : answered ≡ lent_of t before
  pub contents : after ≡ lent_over t before
