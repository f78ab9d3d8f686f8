-- Worked examples of the definitions, each computed by the checker. Assumes nothing.
use Rattle.std.specs.Prelude.{◌≡◌, refl, List, [], ◌∷◌, ◌++◌, map, ℕ, replicate, Some, None}
use Prim.Native.Char.{code}
use Prim.Native.String.{String}
use Rattle.pieces.specs.Numbers.{decimal_in, digits_from}
use Rattle.words.specs.Words.{up_to, word_end, words_in, line_of, number_in}
use Prim.Native.String as string

abbrev text_of : String → List ℕ
text_of string.[] = []
text_of (string.◌∷◌ c s) = code c ∷ text_of s

abbrev return : List ℕ
return = 13 ∷ []

-- ---- words

-- each word of a line; at a space a word of no character; where the line ends, and past it
ends : map (word_end (text_of "add 1 24")) (0 ∷ 4 ∷ 6 ∷ 3 ∷ 8 ∷ 20 ∷ []) ≡ 3 ∷ 5 ∷ 8 ∷ 3 ∷ 8 ∷ 20 ∷ []
unfolding up_to
ends = refl

-- "A carriage return is a character like any other": it ends no word
ends_later : word_end (text_of "show" ++ return) 0 ≡ 5
unfolding up_to
ends_later = refl

-- a line taken apart; a space in front, two between two words and one behind; and a line of no character
apart : words_in (text_of "add 1 24") ∷ words_in (text_of " a  b ") ∷ words_in [] ∷ []
    ≡ (text_of "add" ∷ text_of "1" ∷ text_of "24" ∷ []) ∷ ([] ∷ text_of "a" ∷ [] ∷ text_of "b" ∷ [] ∷ []) ∷ ([] ∷ []) ∷ []
unfolding words_in
apart = refl

together : line_of (text_of "add" ∷ text_of "1" ∷ text_of "24" ∷ []) ≡ text_of "add 1 24"
unfolding line_of
together = refl

-- ---- numbers

numbers : number_in (text_of "0") ∷ number_in (text_of "830") ∷ number_in (text_of "18446744073709551615") ∷ []
    ≡ Some 0 ∷ Some 830 ∷ Some 18446744073709551615 ∷ []
unfolding number_in decimal_in digits_from
numbers = refl

-- no character, needless zeros, signs, another character behind it, 2^64; and "belongs to no word": a carriage return
no_numbers : map number_in (text_of "" ∷ text_of "00" ∷ text_of "05" ∷ text_of "+5" ∷ text_of "-1" ∷ text_of "8A" ∷ text_of "18446744073709551616"
    ∷ (text_of "8" ++ return) ∷ []) ≡ replicate 8 None
unfolding number_in decimal_in digits_from
no_numbers = refl
