-- Worked examples of the definitions, computed by the checker. Assumes nothing.
use Rattle.std.specs.Prelude.{◌≡◌, refl, [], ◌∷◌, Ok, Err}
use Rattle.format.specs.declared.Kind.TheVariants.{Trailing}
use Rattle.pieces.specs.Numbers.{digits_of}
use Rattle.queue_text.specs.Texts.{refusal_text}
use Rattle.answer_text.specs.Texts.{spaced, listed, sent_text}

-- `ok 2 7 10`, `ok 101`, and `refused 11 58`
texts : listed (7 ∷ 10 ∷ []) ∷ sent_text (1 ∷ 0 ∷ 1 ∷ 1 ∷ []) (Ok 3) ∷ sent_text (1 ∷ []) (Err (record { kind = Trailing; place = 58 })) ∷ []
    ≡ (111 ∷ 107 ∷ 32 ∷ 50 ∷ 32 ∷ 55 ∷ 32 ∷ 49 ∷ 48 ∷ 10 ∷ [])
    ∷ (111 ∷ 107 ∷ 32 ∷ 49 ∷ 48 ∷ 49 ∷ 10 ∷ [])
    ∷ (114 ∷ 101 ∷ 102 ∷ 117 ∷ 115 ∷ 101 ∷ 100 ∷ 32 ∷ 49 ∷ 49 ∷ 32 ∷ 53 ∷ 56 ∷ 10 ∷ [])
    ∷ []
unfolding digits_of spaced sent_text refusal_text
texts = refl
