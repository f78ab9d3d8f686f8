-- Worked examples of the definitions, each computed by the checker. Assumes nothing.
use Rattle.std.specs.Prelude.{◌≡◌, refl, [], ◌∷◌, Ok, Err}
use Rattle.format.specs.declared.Kind.TheVariants.{Size, Trailing}
use Rattle.states.specs.Reader.{checked}
use Rattle.packing.specs.Packing.{binary}
use Rattle.pieces.specs.Numbers.{digits_of}
use Rattle.queue_text.specs.Texts.{refusal_text}
use Rattle.answers.specs.Lines.{answer_to, no_telegram}
use Rattle.answers.specs.Text.{text_of}

-- `ok 58 11`, `refused 2 0` and `refused 11 58`
texts : text_of 58 (Ok 11) ∷ text_of 1 (Err (record { kind = Size; place = 0 })) ∷ text_of 59 (Err (record { kind = Trailing; place = 58 })) ∷ []
    ≡ (111 ∷ 107 ∷ 32 ∷ 53 ∷ 56 ∷ 32 ∷ 49 ∷ 49 ∷ 10 ∷ [])
    ∷ (114 ∷ 101 ∷ 102 ∷ 117 ∷ 115 ∷ 101 ∷ 100 ∷ 32 ∷ 50 ∷ 32 ∷ 48 ∷ 10 ∷ [])
    ∷ (114 ∷ 101 ∷ 102 ∷ 117 ∷ 115 ∷ 101 ∷ 100 ∷ 32 ∷ 49 ∷ 49 ∷ 32 ∷ 53 ∷ 56 ∷ 10 ∷ [])
    ∷ []
unfolding digits_of text_of refusal_text
texts = refl

-- the line `1`, an empty line, and a line of other characters alone
refusals : answer_to (49 ∷ []) ∷ answer_to [] ∷ answer_to (32 ∷ 13 ∷ []) ∷ [] ≡ no_telegram ∷ no_telegram ∷ no_telegram ∷ []
unfolding binary checked answer_to
refusals = refl
