-- Worked examples of the definitions, each computed by the checker. Assumes nothing.
use Rattle.std.specs.Prelude.{◌≡◌, refl, List, [], ◌∷◌, ◌++◌, map, ℕ, replicate, Ok, Err}
use Rattle.std.proofs.Math.Option.{Option, some, none}
use Prim.Native.Char.{code}
use Prim.Native.String.{String}
use Rattle.bits.specs.Bits.{value_of, filled, packed, bytes_of}
use Rattle.packing.specs.Packing.{binary}
use Rattle.pieces.specs.Numbers.{decimal_in, digits_from}
use Rattle.words.specs.Words.{up_to, words_in, line_of, number_in}
use Rattle.telegram_word.specs.Telegrams.{Telegram, telegram, hex_of, hexed, in_pairs, bytes_in, bits_form, hex_form, telegram_in}
use Rattle.group_words.specs.Lines.{telegrams_in, line_group, buffer_of, collected_of, bytes_then, counts_then}
use Prim.Native.String as string
use Rattle.packing.specs.declared.PackError.TheVariants.{Other, Room}

abbrev text_of : String → List ℕ
text_of string.[] = []
text_of (string.◌∷◌ c s) = code c ∷ text_of s

-- two telegrams, the second with a byte too many; bits; and "the empty line is the group of none"
groups : map line_group (text_of "9002:16 7F8100:9" ∷ text_of "101" ∷ text_of "" ∷ [])
    ≡ some (telegram (0x90 ∷ 0x02 ∷ []) 16 ∷ telegram (0x7F ∷ 0x81 ∷ 0x00 ∷ []) 9 ∷ [])
    ∷ some (telegram (0xA0 ∷ []) 3 ∷ [])
    ∷ some []
    ∷ []
unfolding line_group telegrams_in words_in telegram_in bits_form binary hex_form up_to hex_of hexed in_pairs bytes_in number_in decimal_in digits_from bytes_of packed filled value_of
groups = refl

-- a word that is no telegram in front, between and behind; two spaces, one in front, one behind, one alone; and a carriage return
no_groups : map line_group (text_of "x 1" ∷ text_of "1 2 1" ∷ text_of "1 00:08" ∷ text_of "1  1" ∷ text_of " 1" ∷ text_of "1 " ∷ text_of " " ∷ (text_of "1" ++ (13 ∷ [])) ∷ [])
    ≡ replicate 8 none
unfolding line_group telegrams_in words_in telegram_in bits_form binary hex_form up_to hex_of hexed in_pairs bytes_in number_in decimal_in digits_from bytes_of packed filled value_of
no_groups = refl

-- "0 to 16 TELEGRAMs": the most, and one more
most_words : line_group (line_of (replicate 16 (text_of "1"))) ∷ line_group (line_of (replicate 17 (text_of "1"))) ∷ []
    ≡ some (replicate 16 (telegram (0x80 ∷ []) 1)) ∷ none ∷ []
unfolding line_group telegrams_in words_in line_of telegram_in bits_form binary hex_form up_to hex_of hexed in_pairs bytes_in number_in decimal_in digits_from bytes_of packed filled value_of
most_words = refl

-- what lies behind is kept, and all of it where there is no room in either, or no group
abbrev two : Option (List Telegram)
two = some (telegram (1 ∷ 2 ∷ []) 9 ∷ telegram (3 ∷ []) 58 ∷ [])

answers : collected_of two (7 ∷ 7 ∷ 7 ∷ 7 ∷ []) (5 ∷ 5 ∷ 5 ∷ []) ∷ collected_of two (7 ∷ 7 ∷ []) (5 ∷ 5 ∷ []) ∷ collected_of two (7 ∷ 7 ∷ 7 ∷ []) (5 ∷ [])
    ∷ collected_of none (7 ∷ []) (5 ∷ []) ∷ [] ≡ Ok (2, 3) ∷ (Err Room) ∷ (Err Room) ∷ (Err Other) ∷ []
unfolding buffer_of
answers = refl

bytes : bytes_then two (7 ∷ 7 ∷ 7 ∷ 7 ∷ []) (5 ∷ 5 ∷ 5 ∷ []) ∷ bytes_then two (7 ∷ 7 ∷ []) (5 ∷ 5 ∷ []) ∷ bytes_then none (7 ∷ []) (5 ∷ []) ∷ []
    ≡ (1 ∷ 2 ∷ 3 ∷ 7 ∷ []) ∷ (7 ∷ 7 ∷ []) ∷ (7 ∷ []) ∷ []
unfolding buffer_of
bytes = refl

counts : counts_then two (7 ∷ 7 ∷ 7 ∷ 7 ∷ []) (5 ∷ 5 ∷ 5 ∷ []) ∷ counts_then two (7 ∷ 7 ∷ 7 ∷ []) (5 ∷ []) ∷ counts_then none (7 ∷ []) (5 ∷ []) ∷ []
    ≡ (9 ∷ 58 ∷ 5 ∷ []) ∷ (5 ∷ []) ∷ (5 ∷ []) ∷ []
unfolding buffer_of
counts = refl
