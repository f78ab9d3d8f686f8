-- Each promise of this crate is met by one answer alone. Assumes nothing.
use mathlib.Core.Path.{refl, sym, ◌∙◌}
use Rattle.format.specs.contracts as promises
use Rattle.bits.proofs.Once.{OneOutcome}
use Rattle.format.proofs.Refusal.at_once

pub at_once_once : OneOutcome promises.Refusal.at_once.ended at_once.Reads.Post
at_once_once κs args r t u v p q = (p ∙ sym q, refl)
