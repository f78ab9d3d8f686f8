-- Answers as text: values, bits, and that a line is no question. Definitions alone.
use Rattle.std.specs.Prelude.{List, [], ◌∷◌, ◌++◌, ℕ, length, take, Ok, Err}
use Rattle.packing.specs.Packing.{characters}
use Rattle.pieces.specs.Numbers.{decimal}
use Rattle.queue_text.specs.Texts.{space, newline, ok_word, refusal_text}
use Rattle.format.specs.Refusals.{Answer}

-- `not a question`
abbrev pub no_question : List ℕ
no_question = 110 ∷ 111 ∷ 116 ∷ 32 ∷ 97 ∷ 32 ∷ 113 ∷ 117 ∷ 101 ∷ 115 ∷ 116 ∷ 105 ∷ 111 ∷ 110 ∷ 10 ∷ []

-- a space and a number for each value
unfoldable pub spaced : List ℕ → List ℕ
spaced [] = []
spaced (v ∷ vs) = (space ++ decimal v) ++ spaced vs

-- "`ok`, the count of its values and the values"
abbrev pub listed : List ℕ → List ℕ
listed vs = ok_word ++ decimal (length vs) ++ spaced vs ++ newline

-- "`ok` and the bits"
abbrev pub sent : List ℕ → List ℕ
sent bs = ok_word ++ characters bs ++ newline

-- of the bits in hand, by the answer: as many as it says
unfoldable pub sent_text : List ℕ → Answer → List ℕ
sent_text bs (Ok n) = sent (take n bs)
sent_text bs (Err r) = refusal_text r
