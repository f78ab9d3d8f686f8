-- Worked examples of the definitions, each computed by the checker. Assumes nothing.
use Rattle.std.specs.Prelude.{◌≡◌, refl, [], ◌∷◌, Some, None}
use Rattle.std.proofs.Math.Option.{some, none}
use Rattle.pieces.specs.Numbers.{digits_from}
use Rattle.value_list.specs.Values.{value_in, values_in, count_of, over}

-- ` 7 010`, nothing, and of no more than one value ` 7 8`; a space behind, two between, no space, another character
values : values_in 2 (32 ∷ 55 ∷ 32 ∷ 48 ∷ 49 ∷ 48 ∷ []) ∷ values_in 2 [] ∷ values_in 1 (32 ∷ 55 ∷ 32 ∷ 56 ∷ [])
    ∷ values_in 2 (32 ∷ 55 ∷ 32 ∷ []) ∷ values_in 2 (32 ∷ 55 ∷ 32 ∷ 32 ∷ 56 ∷ []) ∷ values_in 2 (55 ∷ []) ∷ values_in 2 (32 ∷ 55 ∷ 120 ∷ []) ∷ []
    ≡ some (7 ∷ 10 ∷ []) ∷ some [] ∷ none ∷ none ∷ none ∷ none ∷ none ∷ []
unfolding values_in value_in digits_from
values = refl

-- one value, and none
answers : count_of (some (7 ∷ [])) ∷ count_of none ∷ [] ≡ Some 1 ∷ None ∷ []
answers = refl

-- with three lent
contents : over (some (7 ∷ [])) (1 ∷ 2 ∷ 3 ∷ []) ∷ over none (1 ∷ 2 ∷ 3 ∷ []) ∷ [] ≡ (7 ∷ 2 ∷ 3 ∷ []) ∷ (1 ∷ 2 ∷ 3 ∷ []) ∷ []
contents = refl
