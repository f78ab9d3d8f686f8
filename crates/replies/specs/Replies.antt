-- What is answered to questions, as text. Definitions alone.
use Rattle.std.specs.Prelude.{Bool, cond, ◌&&◌, List, ℕ, leb, length}
use Rattle.answer_text.specs.Texts.{no_question, listed, sent}
use Rattle.bits.specs.Bits.{bytes_of, bytes_for}
use Rattle.format.specs.Rules.{paper}
use Rattle.format.specs.Telegrams.{Result, bits, values, write}
use Rattle.format.specs.Telegrams.Result.{accepted, refused}
use Rattle.packing.specs.Packing.{binary, bits_in}
use Rattle.queue_text.specs.Texts.{refusal_text}
use Rattle.states.specs.Normaliser.{normal_of}
use Rattle.states.specs.Reader.{checked}

-- the values, or the refusal
abbrev pub values_or : Result → List ℕ
values_or (accepted es) = listed (values es)
values_or (refused r) = refusal_text r

unfoldable pub read_text : List ℕ → ℕ → List ℕ
read_text s n = values_or (checked paper s n)

-- the bits, or the refusal
abbrev pub bits_or : Result → List ℕ
bits_or (accepted es) = sent (bits es)
bits_or (refused r) = refusal_text r

unfoldable pub normal_text : List ℕ → ℕ → List ℕ
normal_text s n = bits_or (normal_of (checked paper s n))

unfoldable pub write_text : List ℕ → List ℕ
write_text vs = bits_or (write paper vs)

-- the answer to a line of characters 0 and 1: its normal form, or its values. "More than 1,000 bits" are 126 bytes or more
unfoldable pub bits_text : Bool → List ℕ → List ℕ
bits_text normal line =
    cond (binary line && leb (bytes_for (length line)) 125)
    (cond normal (normal_text (bytes_of (bits_in line)) (length line)) (read_text (bytes_of (bits_in line)) (length line))) no_question
