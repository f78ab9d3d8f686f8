-- Worked examples of the definitions, each computed by the checker. Assumes nothing.
use Rattle.std.specs.Prelude.{◌≡◌, refl, false, [], ◌∷◌}
use Rattle.answer_text.specs.Texts.{no_question}
use Rattle.replies.specs.Replies.{bits_text}
use Rattle.questions.specs.Questions.{reply_to, bits_behind}
use Rattle.vectors.specs.Lines.{answer_below, answer_to}

-- `r`; the same where there are to be fewer characters than two, and than one
lines : answer_to (114 ∷ []) ∷ answer_below 2 (114 ∷ []) ∷ answer_below 1 (114 ∷ []) ∷ [] ≡ bits_text false [] ∷ bits_text false [] ∷ no_question ∷ []
unfolding reply_to bits_behind
lines = refl
