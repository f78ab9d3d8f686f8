-- Each promise of this crate is met by one answer alone. Assumes nothing.
use mathlib.Core.Path.{refl, sym, ap, ◌∙◌}
use Prim.Native.Nat.{ℕ}
use Rattle.distance.specs.contracts as promises
use Rattle.bits.proofs.Once.{OneOutcome}
use Rattle.distance.proofs.Scale
use Rattle.distance.proofs.Steps
use Rattle.distance.proofs.Decimetres

pub of_once : OneOutcome promises.Scale.of.ended Scale.of.Reads.Post
of_once κs args r t u v p q = (p ∙ sym q, refl)

pub step_once : OneOutcome promises.Scale.step.ended Scale.step.Reads.Post
step_once κs args r t u v p q = (p ∙ sym q, refl)

-- steps and decimetres are known by their numbers
pub new_once : OneOutcome promises.Steps.new.ended Steps.new.Reads.Post
new_once κs args r t u v p q = (ap (λ (n : ℕ). record { 0 = n }) (p ∙ sym q), refl)

pub number_once : OneOutcome promises.Steps.number.ended Steps.number.Reads.Post
number_once κs args r t u v p q = (p ∙ sym q, refl)

pub decimetres_once : OneOutcome promises.Steps.decimetres.ended Steps.decimetres.Reads.Post
decimetres_once κs args r t u v p q = (ap (λ (n : ℕ). record { 0 = n }) (p ∙ sym q), refl)

pub whole_metres_once : OneOutcome promises.Steps.whole_metres.ended Steps.whole_metres.Reads.Post
whole_metres_once κs args r t u v p q = (p ∙ sym q, refl)

pub metres_once : OneOutcome promises.Decimetres.metres.ended Decimetres.metres.Reads.Post
metres_once κs args r t u v p q = (p ∙ sym q, refl)

pub steps_once : OneOutcome promises.Decimetres.steps.ended Decimetres.steps.Reads.Post
steps_once κs args r t u v p q = (p ∙ sym q, refl)
