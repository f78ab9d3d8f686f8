-- The answer to a line. Definitions alone.
use Rattle.std.specs.Prelude.{cond, List, ℕ, ltb, length}
use Rattle.answer_text.specs.Texts.{no_question}
use Rattle.questions.specs.Questions.{reply_to}

-- a line of n characters or more is no question, whatever it says: not all of it may be kept
abbrev pub answer_below : ℕ → List ℕ → List ℕ
answer_below n line = cond (ltb (length line) n) (reply_to line) no_question

abbrev pub answer_to : List ℕ → List ℕ
answer_to line = answer_below 65536 line
