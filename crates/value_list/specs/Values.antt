-- Values as text: a space (32) and digits, over and over. Definitions alone.
use Rattle.std.specs.Prelude.{◌≡◌, cond, List, [], ◌∷◌, ◌++◌, ℕ, zero, suc, eqb, length, drop, Some, None}
use Rattle.std.proofs.Math.Option.{Option, some, none}
use Rattle.pieces.specs.Numbers.{Found, found, digits_from, bounded}
use Rattle.std.specs.Prelude as code

-- a number behind a space, if it has a digit at least
abbrev pub behind : Option Found → Option Found
behind none = none
behind (some x) = cond (eqb x.count 0) none (some (found x.value (suc x.count)))

-- the value at the front of a text. "decimal values, which may have leading zeros"; none is past 64 bits
unfoldable pub value_in : List ℕ → Option Found
value_in [] = none
value_in (c ∷ text) = cond (eqb c 32) (behind (bounded (digits_from 0 0 text))) none

-- values in front of those of a text, if it is one
abbrev pub onto : List ℕ → Option (List ℕ) → Option (List ℕ)
onto vs none = none
onto vs (some ws) = some (vs ++ ws)

-- the value at the front of a text, and those behind it
abbrev pub first : (List ℕ → Option (List ℕ)) → List ℕ → Option Found → Option (List ℕ)
first further text none = none
first further text (some x) = onto (x.value ∷ []) (further (drop x.count text))

-- the values of a text that has nothing else, and no more than k
unfoldable pub values_in : ℕ → List ℕ → Option (List ℕ)
values_in zero [] = some []
values_in zero (c ∷ text) = none
values_in (suc k) [] = some []
values_in (suc k) (c ∷ text) = first (values_in k) (c ∷ text) (value_in (c ∷ text))

-- how many they are
abbrev pub count_of : Option (List ℕ) → code.Option ℕ
count_of none = None
count_of (some vs) = Some (length vs)

-- what is lent then: the values in front of what was there, or all as it was
abbrev pub over : Option (List ℕ) → List ℕ → List ℕ
over none before = before
over (some vs) before = vs ++ drop (length vs) before

pub record Taken (text before : List ℕ) (answer : code.Option ℕ) (after : List ℕ) : Type 0 where
  pub answers : answer ≡ count_of (values_in (length before) text)
  pub contents : after ≡ over (values_in (length before) text) before

-- what the private function that stores promises: nothing of a text that is refused
abbrev pub Stored : List ℕ → List ℕ → List ℕ → Type 0
Stored text before after = (vs : List ℕ) → values_in (length before) text ≡ some vs → after ≡ vs ++ drop (length vs) before
