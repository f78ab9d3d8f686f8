-- Each promise of this crate is met by one answer alone. Assumes nothing.
use mathlib.Core.Path.{refl, sym, ◌∙◌}
use Rattle.sightings.specs.contracts as promises
use Rattle.bits.proofs.Once.{OneOutcome}
use Rattle.sightings.proofs.head
use Rattle.sightings.proofs.joined
use Rattle.sightings.proofs.repeats

pub head_once : OneOutcome promises.head.ended head.Reads.Post
head_once κs args r t u v p q = (p ∙ sym q, refl)

pub joined_once : OneOutcome promises.joined.ended joined.Reads.Post
joined_once κs args r t u v p q = (p ∙ sym q, refl)

pub repeats_once : OneOutcome promises.repeats.ended repeats.Reads.Post
repeats_once κs args r t u v p q = (p ∙ sym q, refl)
