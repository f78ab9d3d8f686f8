-- Answers as text. Definitions alone.
use Rattle.std.specs.Prelude.{◌≡◌, List, ◌++◌, ℕ, length, take, Ok, Err}
use Rattle.pieces.specs.Numbers.{decimal}
use Rattle.queue_text.specs.Texts.{space, newline, ok_word, refusal_text}
use Rattle.answers.specs.Lines.{answer_to}
use Rattle.format.specs.Refusals.{Answer}

abbrev pub accepted : ℕ → ℕ → List ℕ
accepted n count = ok_word ++ decimal n ++ space ++ decimal count ++ newline

-- "prints per line `ok`, n, value count, or `refused`, number, place"
unfoldable pub text_of : ℕ → Answer → List ℕ
text_of n (Ok count) = accepted n count
text_of n (Err r) = refusal_text r

-- what is printed for a line
abbrev pub response_to : List ℕ → List ℕ
response_to line = text_of (length line) (answer_to line)

-- the first m characters of a line tell what is printed for it
pub record TellsLine (m : ℕ) : Type 0 where
  pub tells : (line : List ℕ) → response_to (take m line) ≡ response_to line
