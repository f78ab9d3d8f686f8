-- `noting::spot` meets its contract: the two kinds are those whose numbers the definition asks for. Assumes nothing.
use Rattle.std.proofs.Common.{◌≡◌, refl, ℕ, ◌∙◌}
use Rattle.format.specs.Rules.{Context, misfit, spot_of}
use Rattle.format.specs.declared.Kind.{Kind}
use Rattle.format.specs.declared.Kind.TheVariants.{Room, Size, Padding, Header, Ended, Unknown, Value, Length, Direction, Repeated, Trailing, Wide, Full}
use Rattle.format.specs.declared.Spot.TheVariants.{Due, Behind}
use Rattle.noting.proofs.spot.Goals as goal

of_length : (x : ℕ) (c : Context) → misfit x c ≡ spot_of Length x c
unfolding spot_of
of_length x c = refl

of_trailing : (x : ℕ) (c : Context) → Behind ≡ spot_of Trailing x c
unfolding spot_of
of_trailing x c = refl

of_others : (k : Kind) (x : ℕ) (c : Context) → (k ≡ Length → ⊥) → (k ≡ Trailing → ⊥) → Due ≡ spot_of k x c
unfolding spot_of
of_others Room x c l t = refl
of_others Size x c l t = refl
of_others Padding x c l t = refl
of_others Header x c l t = refl
of_others Ended x c l t = refl
of_others Unknown x c l t = refl
of_others Value x c l t = refl
of_others Length x c l t = absurd (l refl)
of_others Direction x c l t = refl
of_others Repeated x c l t = refl
of_others Trailing x c l t = absurd (t refl)
of_others Wide x c l t = refl
of_others Full x c l t = refl

pub returns-in-Length : goal.returns-in-Length
returns-in-Length c = λ l. c.misfit.ensures l ∙ rw c.in-Length.is (of_length _ _)

pub returns-in-Trailing : goal.returns-in-Trailing
returns-in-Trailing c = λ l. rw c.in-Trailing.is (of_trailing _ _)

pub returns-in_default : goal.returns-in_default
returns-in_default c = λ l. of_others _ _ _ c.in_default.not-Length c.in_default.not-Trailing
