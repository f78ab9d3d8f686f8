-- The promise of this crate is met by one answer alone. Assumes nothing.
use mathlib.Core.Path.{refl, sym, ◌∙◌}
use Rattle.radio_number.specs.contracts as promises
use Rattle.bits.proofs.Once.{OneOutcome}
use Rattle.radio_number.proofs.allowed

pub allowed_once : OneOutcome promises.allowed.ended allowed.Reads.Post
allowed_once κs args r t u v p q = (p ∙ sym q, refl)
