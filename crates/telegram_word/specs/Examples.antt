-- Worked examples of the definitions, each computed by the checker. Assumes nothing.
use Rattle.std.specs.Prelude.{◌≡◌, refl, List, [], ◌∷◌, ◌++◌, map, ℕ, replicate, Ok, Err}
use Rattle.std.proofs.Math.Option.{Option, some, none}
use Prim.Native.Char.{code}
use Prim.Native.String.{String}
use Rattle.bits.specs.Bits.{value_of, filled, packed, bytes_of}
use Rattle.packing.specs.Packing.{binary}
use Rattle.pieces.specs.Numbers.{decimal_in, digits_from}
use Rattle.words.specs.Words.{up_to, number_in}
use Rattle.telegram_word.specs.Telegrams.{Telegram, telegram, hex_of, hexed, in_pairs, bytes_in, bits_form, hex_form, telegram_in, lent_of, lent_over}
use Prim.Native.String as string
use Rattle.packing.specs.declared.PackError.TheVariants.{Other, Room}

abbrev text_of : String → List ℕ
text_of string.[] = []
text_of (string.◌∷◌ c s) = code c ∷ text_of s

abbrev return : List ℕ
return = 13 ∷ []

-- HEX:n in either case, bytes and n that do not fit each other, no byte and no bit, and the largest n
hexes : map telegram_in (text_of "90027F8125DFFFC1:58" ∷ text_of "90027f8125dfffc1:58" ∷ text_of "90027F8125DFFFC0:57" ∷ text_of "90027F8125DFFF:58"
    ∷ text_of ":0" ∷ text_of "00:18446744073709551615" ∷ [])
    ≡ some (telegram (0x90 ∷ 0x02 ∷ 0x7F ∷ 0x81 ∷ 0x25 ∷ 0xDF ∷ 0xFF ∷ 0xC1 ∷ []) 58)
    ∷ some (telegram (0x90 ∷ 0x02 ∷ 0x7F ∷ 0x81 ∷ 0x25 ∷ 0xDF ∷ 0xFF ∷ 0xC1 ∷ []) 58)
    ∷ some (telegram (0x90 ∷ 0x02 ∷ 0x7F ∷ 0x81 ∷ 0x25 ∷ 0xDF ∷ 0xFF ∷ 0xC0 ∷ []) 57)
    ∷ some (telegram (0x90 ∷ 0x02 ∷ 0x7F ∷ 0x81 ∷ 0x25 ∷ 0xDF ∷ 0xFF ∷ []) 58)
    ∷ some (telegram [] 0)
    ∷ some (telegram (0 ∷ []) 18446744073709551615)
    ∷ []
unfolding telegram_in bits_form binary hex_form up_to hex_of hexed in_pairs bytes_in number_in decimal_in digits_from
hexes = refl

-- bits, packed from the highest; and two characters 0, which are no byte without a colon
bits : map telegram_in (text_of "1" ∷ text_of "10010000001" ∷ text_of "00" ∷ [])
    ≡ some (telegram (0x80 ∷ []) 1) ∷ some (telegram (0x90 ∷ 0x20 ∷ []) 11) ∷ some (telegram (0 ∷ []) 2) ∷ []
unfolding telegram_in bits_form binary hex_form bytes_of packed filled value_of
bits = refl

-- a colon alone, no number, no colon, an odd count of characters, another character before and behind the colon, a needless zero, 2^64, two
-- colons, a bit that is none, no character, and a carriage return
no_telegrams : map telegram_in (text_of ":" ∷ text_of "00:" ∷ text_of "90" ∷ text_of "900:12" ∷ text_of "0G:8" ∷ text_of "00:8A" ∷ text_of "00:08"
    ∷ text_of "00:18446744073709551616" ∷ text_of "00:8:8" ∷ text_of "012" ∷ text_of "" ∷ (text_of "01" ++ return) ∷ []) ≡ replicate 12 none
unfolding telegram_in bits_form binary hex_form up_to hex_of hexed in_pairs bytes_in number_in decimal_in digits_from
no_telegrams = refl

-- "1 to 1,024 characters 0 and 1", "0 to 128 bytes": the most of each, and one more
longest : map telegram_in (replicate 1024 49 ∷ replicate 1025 49 ∷ (replicate 256 70 ++ text_of ":8") ∷ (replicate 258 70 ++ text_of ":8") ∷ [])
    ≡ some (telegram (replicate 128 0xFF) 1024) ∷ none ∷ some (telegram (replicate 128 0xFF) 8) ∷ none ∷ []
unfolding telegram_in bits_form binary hex_form up_to hex_of hexed in_pairs bytes_in number_in decimal_in digits_from bytes_of packed filled value_of
longest = refl

-- what lies behind the bytes is kept, and all of it where there is no room, or no telegram
abbrev word : Option Telegram
word = telegram_in (text_of "0102:9")

put : lent_of word (7 ∷ 7 ∷ 7 ∷ []) ∷ lent_of word (7 ∷ []) ∷ lent_of none (7 ∷ []) ∷ [] ≡ Ok (2, 9) ∷ (Err Room) ∷ (Err Other) ∷ []
unfolding telegram_in bits_form binary hex_form up_to hex_of hexed in_pairs bytes_in number_in decimal_in digits_from
put = refl

puts : lent_over word (7 ∷ 7 ∷ 7 ∷ []) ∷ lent_over word (7 ∷ []) ∷ lent_over none (7 ∷ []) ∷ [] ≡ (1 ∷ 2 ∷ 7 ∷ []) ∷ (7 ∷ []) ∷ (7 ∷ []) ∷ []
unfolding telegram_in bits_form binary hex_form up_to hex_of hexed in_pairs bytes_in number_in decimal_in digits_from
puts = refl
