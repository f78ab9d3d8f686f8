-- Worked examples of the definitions, computed by the checker. Assumes nothing.
use Rattle.std.specs.Prelude.{◌≡◌, refl, false, [], ◌∷◌}
use Rattle.answer_text.specs.Texts.{no_question}
use Rattle.pieces.specs.Numbers.{digits_from}
use Rattle.replies.specs.Replies.{bits_text}
use Rattle.value_list.specs.Values.{value_in, values_in}
use Rattle.questions.specs.Questions.{bits_behind, values_behind, reply_to}

-- an empty line, another letter, `rx`; `r` alone and `r` with a space are the same question
lines : reply_to [] ∷ reply_to (120 ∷ []) ∷ reply_to (114 ∷ 120 ∷ []) ∷ reply_to (114 ∷ []) ∷ reply_to (114 ∷ 32 ∷ []) ∷ []
    ≡ no_question ∷ no_question ∷ no_question ∷ bits_text false [] ∷ bits_text false [] ∷ []
unfolding reply_to bits_behind
lines = refl

-- ` 7x` behind `w`
values : values_behind (32 ∷ 55 ∷ 120 ∷ []) ≡ no_question
unfolding values_behind values_in value_in digits_from
values = refl
