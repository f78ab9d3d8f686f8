-- Each promise of this crate is met by one answer alone. Assumes nothing.
use mathlib.Core.Path.{refl, sym, ◌∙◌}
use Rattle.hops.specs.contracts as promises
use Rattle.bits.proofs.Once.{OneOutcome}
use Rattle.hops.proofs.link
use Rattle.hops.proofs.level
use Rattle.hops.proofs.transition
use Rattle.hops.proofs.choice
use Rattle.hops.proofs.condition
use Rattle.hops.proofs.position
use Rattle.hops.proofs.circuit

pub link_once : OneOutcome promises.link.ended link.Reads.Post
link_once κs args r t u v p q = (p ∙ sym q, refl)

pub level_once : OneOutcome promises.level.ended level.Reads.Post
level_once κs args r t u v p q = (p ∙ sym q, refl)

pub transition_once : OneOutcome promises.transition.ended transition.Reads.Post
transition_once κs args r t u v p q = (p ∙ sym q, refl)

pub choice_once : OneOutcome promises.choice.ended choice.Reads.Post
choice_once κs args r t u v p q = (p ∙ sym q, refl)

pub condition_once : OneOutcome promises.condition.ended condition.Reads.Post
condition_once κs args r t u v p q = (p ∙ sym q, refl)

pub position_once : OneOutcome promises.position.ended position.Reads.Post
position_once κs args r t u v p q = (p ∙ sym q, refl)

pub circuit_once : OneOutcome promises.circuit.ended circuit.Reads.Post
circuit_once κs args r t u v p q = (p ∙ sym q, refl)
