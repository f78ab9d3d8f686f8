-- Worked examples of the definitions, computed by the checker. Assumes nothing.
use Rattle.std.specs.Prelude.{◌≡◌, refl, true, false, [], ◌∷◌}
use Rattle.answer_text.specs.Texts.{no_question}
use Rattle.packing.specs.Packing.{binary}
use Rattle.pieces.specs.Numbers.{digits_of}
use Rattle.queue_text.specs.Texts.{refusal_text}
use Rattle.replies.specs.Replies.{read_text, bits_text}
use Rattle.states.specs.Reader.{checked}

-- `1` is no telegram: `refused 2 0`; `2` is no bit
lines : bits_text false (49 ∷ []) ∷ bits_text true (50 ∷ []) ∷ [] ≡ (114 ∷ 101 ∷ 102 ∷ 117 ∷ 115 ∷ 101 ∷ 100 ∷ 32 ∷ 50 ∷ 32 ∷ 48 ∷ 10 ∷ []) ∷ no_question ∷ []
unfolding bits_text binary read_text checked refusal_text digits_of
lines = refl
