-- docs/RULES.md, "Data sheets": numbers as text, written and read. Definitions alone.
use Rattle.std.specs.Prelude.{Bool, cond, ◌&&◌, ◌||◌, List, [], ◌∷◌, ◌++◌, ℕ, zero, suc, ◌+◌, ◌-◌, ◌*◌, ◌/◌, ◌%◌, ◌^◌, eqb, leb, ltb, Some, None}
use Rattle.std.proofs.Math.Option.{Option, some, none}
use Rattle.std.specs.Prelude as code

-- ---- written

-- the digits of a number of at most k digits, the character 48 being 0
unfoldable pub digits_of : ℕ → ℕ → List ℕ
digits_of zero n = []
digits_of (suc k) n = cond (ltb n 10) ((48 + n) ∷ []) (digits_of k (n / 10) ++ ((48 + n % 10) ∷ []))

-- "decimal values with no needless zero": no number of 64 bits has more than 20 digits
abbrev pub decimal : ℕ → List ℕ
decimal n = digits_of 20 n

-- "characters 0-9 and F", the character 70 being F
abbrev pub letter : ℕ → ℕ
letter d = cond (leb d 9) (48 + d) 70

-- the last k places of four bits of a number
unfoldable pub places_of : ℕ → ℕ → List ℕ
places_of zero n = []
places_of (suc k) n = places_of k (n / 16) ++ (letter (n % 16) ∷ [])

-- "exactly sixteen characters"
abbrev pub sixteen : ℕ → List ℕ
sixteen n = places_of 16 n

-- ---- read

-- a number that stands at the front of a text, and how many characters it takes
pub record Found : Type 0 where
  pub value : ℕ
  pub count : ℕ

abbrev pub found : ℕ → ℕ → Found
found v n = record { value = v; count = n }

abbrev pub is_digit : ℕ → Bool
is_digit c = leb 48 c && leb c 57

-- all the digits at the front, behind n of the value v
unfoldable pub digits_from : ℕ → ℕ → List ℕ → Found
digits_from v n [] = found v n
digits_from v n (c ∷ text) = cond (is_digit c) (digits_from (10 * v + (c - 48)) (suc n) text) (found v n)

-- "a number past 64 bits" is none
abbrev pub bounded : Found → Option Found
bounded x = cond (ltb x.value (2 ^ 64)) (some x) none

-- a 0, which is a number by itself; or another digit and all digits behind it
unfoldable pub decimal_in : List ℕ → Option Found
decimal_in [] = none
decimal_in (c ∷ text) =
    cond (eqb c 48) (some (found 0 1)) (cond (is_digit c) (bounded (digits_from 0 0 (c ∷ text))) none)

abbrev pub is_place : ℕ → Bool
is_place c = is_digit c || eqb c 70

abbrev pub place_of : ℕ → ℕ
place_of c = cond (eqb c 70) 15 (c - 48)

-- k places at the front, behind those of the value v
unfoldable pub places_from : ℕ → ℕ → List ℕ → Option ℕ
places_from zero v text = some v
places_from (suc k) v [] = none
places_from (suc k) v (c ∷ text) = cond (is_place c) (places_from k (16 * v + place_of c) text) none

abbrev pub counted : ℕ → Option ℕ → Option Found
counted n none = none
counted n (some v) = some (found v n)

unfoldable pub sixteen_in : List ℕ → Option Found
sixteen_in text = counted 16 (places_from 16 0 text)

-- the answer of what reads a number at a position: its value, and where it ends
abbrev pub read_at : ℕ → Option Found → code.Option (ℕ × ℕ)
read_at at none = None
read_at at (some x) = Some (x.value, at + x.count)
