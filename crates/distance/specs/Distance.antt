-- docs/RULES.md, "Distances and the normal form": distances by the scale that a Q_SCALE is. Definitions and worked examples.
use Rattle.std.specs.Prelude.{◌≡◌, refl, Bool, true, false, ◌&&◌, [], ◌∷◌, ℕ, zero, suc, ◌/◌, ◌%◌, ◌^◌, eqb, ltb, Some, None, Option}
use Rattle.distance.specs.Steps.{step, decimetres, steps}
use Rattle.distance.specs.declared.Scale.{Scale}
use Rattle.distance.specs.declared.Scale.TheVariants.{Tenths, Metres, Tens}
use Rattle.distance.specs.declared.Steps.{Steps}

-- the Q_SCALE of a scale
abbrev pub number_of : Scale → ℕ
number_of Tenths = 0
number_of Metres = 1
number_of Tens = 2

unfoldable pub scaled_by : ℕ → Option Scale
scaled_by zero = Some Tenths
scaled_by (suc zero) = Some Metres
scaled_by (suc (suc zero)) = Some Tens
scaled_by (suc (suc (suc n))) = None

abbrev pub in_decimetres : Scale → ℕ → ℕ
in_decimetres q n = decimetres (number_of q) n

abbrev whole_if : Bool → ℕ → Option Steps
whole_if true n = Some (record { 0 = n })
whole_if false n = None

-- d decimetres in steps of so many: a whole number that 32 bits hold, or not
abbrev pub whole_steps : ℕ → ℕ → Option Steps
whole_steps k d = whole_if (eqb (d % k) 0 && ltb (d / k) (2 ^ 32)) (d / k)

abbrev pub in_steps : Scale → ℕ → Option Steps
in_steps q d = whole_steps (step (number_of q)) d

-- whether d decimetres are "a whole number of metres that fits" a field of w bits
abbrev pub whole_metres : ℕ → ℕ → Bool
whole_metres w d = eqb (d % step 1) 0 && ltb (steps 1 d) (2 ^ w)

-- 70 steps of 10 m are 7,000 dm, and 700 steps of 1 m; 1,015 dm are no whole number of metres
examples : in_decimetres Tens 70 ∷ in_decimetres Metres 700 ∷ [] ≡ 7000 ∷ 7000 ∷ []
examples = refl

back : in_steps Metres 7000 ∷ in_steps Metres 1015 ∷ in_steps Tenths 1015 ∷ []
    ≡ Some (record { 0 = 700 }) ∷ None ∷ Some (record { 0 = 1015 }) ∷ []
back = refl

-- 90,000 steps of 10 m are 900,000 m, which 20 bits hold, and 110,000 are too many
fit : whole_metres 20 (in_decimetres Tens 90000) ∷ whole_metres 20 (in_decimetres Tens 110000) ∷ [] ≡ true ∷ false ∷ []
fit = refl
