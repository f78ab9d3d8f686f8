-- Worked examples of the definitions, each computed by the checker. Assumes nothing.
use Rattle.std.specs.Prelude.{◌≡◌, refl, List, [], ◌∷◌, ℕ}
use Rattle.std.proofs.Math.Option.{some, none}
use Rattle.pieces.specs.Numbers.{digits_of, decimal, places_of, sixteen, digits_from, decimal_in, bounded, found, places_from, sixteen_in}

written : decimal 0 ∷ decimal 9 ∷ decimal 10 ∷ decimal 830 ∷ [] ≡ (48 ∷ []) ∷ (57 ∷ []) ∷ (49 ∷ 48 ∷ []) ∷ (56 ∷ 51 ∷ 48 ∷ []) ∷ []
unfolding digits_of
written = refl

-- `0`, `830` and a comma, `05`, which is 0 and no more, and what is no number
reads : decimal_in (48 ∷ []) ∷ decimal_in (56 ∷ 51 ∷ 48 ∷ 44 ∷ []) ∷ decimal_in (48 ∷ 53 ∷ []) ∷ decimal_in (43 ∷ 53 ∷ []) ∷ decimal_in [] ∷ []
    ≡ some (found 0 1) ∷ some (found 830 3) ∷ some (found 0 1) ∷ none ∷ none ∷ []
unfolding decimal_in digits_from
reads = refl

-- all the digits of `007` and a comma, and none of `+5`
leads : bounded (digits_from 0 0 (48 ∷ 48 ∷ 55 ∷ 44 ∷ [])) ∷ bounded (digits_from 0 0 (43 ∷ 53 ∷ [])) ∷ [] ≡ some (found 7 3) ∷ some (found 0 0) ∷ []
unfolding digits_from
leads = refl

-- the largest number of 64 bits, and one more
edge : decimal_in (decimal 18446744073709551615) ∷ decimal_in (decimal 18446744073709551616) ∷ [] ≡ some (found 18446744073709551615 20) ∷ none ∷ []
unfolding decimal_in digits_from digits_of
edge = refl

-- 08614970020002FF, worked telegram 7
abbrev radio : List ℕ
radio = 48 ∷ 56 ∷ 54 ∷ 49 ∷ 52 ∷ 57 ∷ 55 ∷ 48 ∷ 48 ∷ 50 ∷ 48 ∷ 48 ∷ 48 ∷ 50 ∷ 70 ∷ 70 ∷ []

places : sixteen 0x08614970020002FF ≡ radio
unfolding places_of
places = refl

placed : sixteen_in radio ≡ some (found 0x08614970020002FF 16)
unfolding sixteen_in places_from
placed = refl

-- without its 0 it is fifteen characters
eaten : sixteen_in (56 ∷ 54 ∷ 49 ∷ 52 ∷ 57 ∷ 55 ∷ 48 ∷ 48 ∷ 50 ∷ 48 ∷ 48 ∷ 48 ∷ 50 ∷ 70 ∷ 70 ∷ 13 ∷ 10 ∷ []) ≡ none
unfolding sixteen_in places_from
eaten = refl
