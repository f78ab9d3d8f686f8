-- Worked examples of the definitions, each computed by the checker. Assumes nothing.
use Rattle.std.specs.Prelude.{◌≡◌, refl, List, [], ◌∷◌, map, ℕ}
use Prim.Native.Char.{code}
use Prim.Native.String.{String}
use Rattle.bits.specs.Bits.{value_of, filled, packed, bytes_of}
use Rattle.packing.specs.Packing.{binary}
use Rattle.pieces.specs.Numbers.{decimal_in, digits_from, digits_of}
use Rattle.words.specs.Words.{up_to, words_in, number_in}
use Rattle.states.specs.Reader.{checked}
use Rattle.telegram_word.specs.Telegrams.{hex_of, hexed, in_pairs, bytes_in, bits_form, hex_form, telegram_in}
use Rattle.group.specs.Groups.{Member, fault, parts, arrived, grouped, message, group}
use Rattle.group.specs.Groups.Message.{lists, refuses}
use Rattle.group.specs.declared.Cause.TheVariants.{Copied, Repeated, Single}
use Rattle.format.specs.declared.Kind.TheVariants.{Padding}
use Rattle.group_words.specs.Lines.{telegrams_in, line_group, buffer_of}
use Rattle.group_answers.specs.Lines.{member_texts, message_text, answer_to}
use Prim.Native.String as string

abbrev text_of : String → List ℕ
text_of string.[] = []
text_of (string.◌∷◌ c s) = code c ∷ text_of s

-- what a text reads, and the newline behind it
abbrev line_of : String → List ℕ
line_of string.[] = 10 ∷ []
line_of (string.◌∷◌ c s) = code c ∷ line_of s

abbrev member : ℕ → ℕ → Member
member pig number = record { pig = pig; number = number; id = 44; dir = 1; at = 58 }

-- packets, and a refusal of each form
texts : map message_text (lists (member 0 0 ∷ member 0 1 ∷ member 1 0 ∷ []) ∷ lists [] ∷ refuses (fault Copied 1 0) ∷ refuses (fault Repeated 1 82)
    ∷ refuses (fault (Single Padding) 1 0) ∷ [])
    ≡ line_of "ok 3 0.0 0.1 1.0" ∷ line_of "ok 0" ∷ line_of "refused 23 1 0" ∷ line_of "refused 10 1 82" ∷ line_of "refused 3 1 0" ∷ []
unfolding message_text member_texts digits_of
texts = refl

-- the empty line, telegrams of no byte and no bit, and lines that are no question
answers : map answer_to (text_of "" ∷ text_of ":0" ∷ text_of "1 :0" ∷ text_of "x" ∷ text_of "1  1" ∷ [])
    ≡ line_of "refused 21 0 0" ∷ line_of "refused 2 0 0" ∷ line_of "refused 2 0 0" ∷ line_of "not a question" ∷ line_of "not a question" ∷ []
unfolding answer_to message_text member_texts digits_of line_group telegrams_in buffer_of words_in telegram_in bits_form binary hex_form up_to hex_of hexed in_pairs bytes_in number_in decimal_in digits_from bytes_of packed filled value_of group parts arrived message grouped checked
answers = refl
