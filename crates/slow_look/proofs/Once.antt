-- The promise of this crate is met by one answer alone. Assumes nothing.
use mathlib.Core.Path.{refl, sym, ◌∙◌}
use Rattle.slow_look.specs.contracts as promises
use Rattle.bits.proofs.Once.{OneOutcome}
use Rattle.slow_look.proofs.collides_slowly

pub slowly_once : OneOutcome promises.collides_slowly.ended collides_slowly.Reads.Post
slowly_once κs args r t u v p q = (p ∙ sym q, refl)
