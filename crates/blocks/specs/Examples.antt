-- Worked examples of the definitions, each computed by the checker. Assumes nothing.
use Rattle.std.specs.Prelude.{◌≡◌, refl, true, false, List, [], ◌∷◌, ℕ}
use Rattle.words.specs.Words.{up_to}
use Rattle.blocks.specs.Reading.{over, in_hand, taken_on}
use Rattle.blocks.specs.declared.Input.{Input}

-- `ab`, a newline, `c`
block : List ℕ
block = 97 ∷ 98 ∷ 10 ∷ 99 ∷ []

abbrev at : ℕ → ℕ → ℕ → Input
at from to kept = record { from = from; to = to; kept = kept; whole = false; ended = false; failed = false }

-- the first line ends in the block; the second goes on behind it; of a line of which `x` is kept
steps : taken_on block (0 ∷ 0 ∷ 0 ∷ []) (at 0 4 0) ∷ taken_on block (0 ∷ 0 ∷ 0 ∷ []) (at 3 4 0) ∷ taken_on block (120 ∷ 0 ∷ []) (at 0 4 1) ∷ []
    ≡ record { from = 3; to = 4; kept = 2; whole = true; ended = false; failed = false }
    ∷ record { from = 4; to = 4; kept = 1; whole = false; ended = false; failed = false }
    ∷ record { from = 3; to = 4; kept = 2; whole = true; ended = false; failed = false }
    ∷ []
unfolding block taken_on in_hand up_to
steps = refl

-- two characters are kept of `xab`, and of `ab` behind a whole line
lines : over (in_hand block (120 ∷ 0 ∷ []) (at 0 4 1)) (120 ∷ 0 ∷ [])
    ∷ over (in_hand block (120 ∷ 0 ∷ 5 ∷ []) (record { from = 0; to = 4; kept = 1; whole = true; ended = false; failed = false })) (120 ∷ 0 ∷ 5 ∷ []) ∷ []
    ≡ (120 ∷ 97 ∷ []) ∷ (97 ∷ 98 ∷ 5 ∷ []) ∷ []
unfolding block in_hand up_to
lines = refl
