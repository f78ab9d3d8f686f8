-- Demand 3: two accepted telegrams "say the same .. exactly when their normal forms have the same bits". Definitions alone.
use Rattle.std.specs.Prelude.{cond, List, ◌≡◌, ℕ, leb, length, Ok, true, false, Err, Bool}
use Rattle.bits.specs.Bits.{same}
use Rattle.format.specs.Normal.{normal}
use Rattle.format.specs.Refusals as refusals
use Rattle.format.specs.Rules.{Terms}
use Rattle.format.specs.Telegrams.{Entry, Result, bits}
use Rattle.format.specs.Telegrams.Result.{accepted, refused}
use Rattle.format.specs.declared.Kind.TheVariants.{Room}
use Rattle.format.specs.declared.Refusal.{Refusal}
use Rattle.states.specs.Reader.{bytes_needed, early, checked}
use Rattle.states.specs.Writer.{bytes_over}
use Rattle.alike.specs.declared.PairError.TheVariants.{First, Second}
use Rattle.alike.specs.declared.PairError.{PairError}
use Rattle.std.specs.Prelude as code

-- what comes of two telegrams: both are accepted, or one of them is refused
pub data Pair : Type 0 where
  both : List Entry → List Entry → Pair
  first second : Refusal → Pair

-- the first comes first
abbrev pub pair_of : Result → Result → Pair
pair_of (accepted es) (accepted fs) = both es fs
pair_of (accepted es) (refused r) = second r
pair_of (refused r) b = first r

-- lent so many bytes for each normal form. "Order: 1, then .."
abbrev pub pair_into : Terms → List ℕ → ℕ → List ℕ → ℕ → ℕ → ℕ → Pair
pair_into p s n t m x y =
    cond (leb bytes_needed x) (cond (leb bytes_needed y) (pair_of (checked p s n) (checked p t m)) (second (early Room))) (first (early Room))

-- whether the two normal forms have the same bits, or which telegram is refused
abbrev pub alike : Pair → code.Result Bool PairError
alike (both es fs) = Ok (same (bits (normal es)) (bits (normal fs)))
alike (first r) = Err (First r)
alike (second r) = Err (Second r)

-- "When an answer is an enum, a definition specifies [the rules'] number and values for each of its cases": which telegram is refused, and by which number
-- and where; none, and then 0 where they say the same and 1 where they do not. `alike_is` in proofs/Numbers.antt says that an answer is known by them.
abbrev pub in_numbers : code.Result Bool PairError → ℕ × ℕ × ℕ
in_numbers (Ok true) = (0, 0, 0)
in_numbers (Ok false) = (0, 0, 1)
in_numbers (Err (First r)) = (1, refusals.number_of r.kind, r.place)
in_numbers (Err (Second r)) = (2, refusals.number_of r.kind, r.place)

-- the normal form of each in front of what was there; "A refusal .. changes no output", not of the other one either
abbrev pub first_over : Pair → List ℕ → List ℕ
first_over (both es fs) before = bytes_over (accepted (normal es)) before
first_over (first r) before = before
first_over (second r) before = before

abbrev pub second_over : Pair → List ℕ → List ℕ
second_over (both es fs) before = bytes_over (accepted (normal fs)) before
second_over (first r) before = before
second_over (second r) before = before

-- the promise of `says_same`
pub record SaysSame (p : Terms) (s : List ℕ) (n : ℕ) (t : List ℕ) (m : ℕ) (x y : List ℕ) (answer : code.Result Bool PairError) (x_after y_after : List ℕ) : Type 0 where
  pub answers : in_numbers answer ≡ in_numbers (alike (pair_into p s n t m (length x) (length y)))
  pub first : x_after ≡ first_over (pair_into p s n t m (length x) (length y)) x
  pub second : y_after ≡ second_over (pair_into p s n t m (length x) (length y)) y
