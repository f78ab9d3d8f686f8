-- The answer to a line that writes a group. Definitions alone.
use Rattle.std.specs.Prelude.{◌≡◌, List, [], ◌∷◌, ◌++◌, ℕ, length, take}
use Rattle.std.proofs.Math.Option.{Option, some, none}
use Rattle.format.specs.Rules.{paper}
use Rattle.pieces.specs.Numbers.{decimal}
use Rattle.queue_text.specs.Texts.{newline, ok_word}
use Rattle.answer_text.specs.Texts.{no_question}
use Rattle.telegram_word.specs.Telegrams.{Telegram}
use Rattle.group.specs.Groups.{Member, Message, cause_number, group, packets_needed}
use Rattle.group.specs.Groups.Message.{lists, refuses}
use Rattle.group_text.specs.Texts.{packet_text, fault_text}
use Rattle.group_words.specs.Lines.{line_group, buffer_of, counts_of}

-- "each packet as N_PIG, a dot, its number in its telegram"
unfoldable pub member_texts : List Member → List ℕ
member_texts [] = []
member_texts (m ∷ ms) = packet_text m.pig m.number ++ member_texts ms

-- "Answer: `ok`, the number of packets, then each packet ..; or `refused NUMBER WHICH PLACE`"
unfoldable pub message_text : Message → List ℕ
message_text (lists ms) = ok_word ++ decimal (length ms) ++ member_texts ms ++ newline
message_text (refuses f) = fault_text (cause_number f.cause) f.which f.place

-- "The buffer is the bytes of all words one behind the other, the list is their n"; and "a program .. lends enough"
abbrev pub group_text : List Telegram → List ℕ
group_text ts = message_text (group paper (buffer_of ts) (counts_of ts) packets_needed)

-- "A line that is no question is answered `not a question`"
abbrev pub text_of : Option (List Telegram) → List ℕ
text_of none = no_question
text_of (some ts) = group_text ts

-- what is printed for a line
unfoldable pub answer_to : List ℕ → List ℕ
answer_to line = text_of (line_group line)

-- the first m characters of a line tell what is printed for it
pub record TellsLine (m : ℕ) : Type 0 where
  pub tells : (line : List ℕ) → answer_to (take m line) ≡ answer_to line
