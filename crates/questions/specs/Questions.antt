-- Questions, one a line, and what is answered to them. Definitions alone.
use Rattle.std.specs.Prelude.{Bool, true, false, cond, List, [], ◌∷◌, ℕ, eqb}
use Rattle.std.proofs.Math.Option.{Option, some, none}
use Rattle.answer_text.specs.Texts.{no_question}
use Rattle.replies.specs.Replies.{bits_text, write_text}
use Rattle.value_list.specs.Values.{values_in}

abbrev pub written : Option (List ℕ) → List ℕ
written none = no_question
written (some vs) = write_text vs

-- "w V V ..": no more than 1,000 values
unfoldable pub values_behind : List ℕ → List ℕ
values_behind rest = written (values_in 1000 rest)

-- "r BITS", "n BITS": with no bits the letter alone, and the space may stay
unfoldable pub bits_behind : Bool → List ℕ → List ℕ
bits_behind normal [] = bits_text normal []
bits_behind normal (c ∷ rest) = cond (eqb c 32) (bits_text normal rest) no_question

-- by the letter: `r` (114), `n` (110), `w` (119)
abbrev pub asked : ℕ → List ℕ → List ℕ
asked letter rest =
    cond (eqb letter 114) (bits_behind false rest)
    (cond (eqb letter 110) (bits_behind true rest) (cond (eqb letter 119) (values_behind rest) no_question))

unfoldable pub reply_to : List ℕ → List ℕ
reply_to [] = no_question
reply_to (letter ∷ rest) = asked letter rest
