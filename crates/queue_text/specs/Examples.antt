-- A worked example of the definitions, computed by the checker. Assumes nothing.
use Rattle.std.specs.Prelude.{◌≡◌, refl, [], ◌∷◌}
use Rattle.format.specs.declared.Kind.TheVariants.{Trailing}
use Rattle.pieces.specs.Numbers.{digits_of}
use Rattle.queue_text.specs.Texts.{refusal_text}

-- `refused 11 58`
refusal : refusal_text (record { kind = Trailing; place = 58 })
    ≡ 114 ∷ 101 ∷ 102 ∷ 117 ∷ 115 ∷ 101 ∷ 100 ∷ 32 ∷ 49 ∷ 49 ∷ 32 ∷ 53 ∷ 56 ∷ 10 ∷ []
unfolding refusal_text digits_of
refusal = refl
