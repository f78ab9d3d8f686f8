-- Each promise of this crate is met by one answer alone. Assumes nothing.
use mathlib.Core.Path.{refl, sym, ◌∙◌}
use Rattle.wide_lists.specs.contracts as promises
use Rattle.bits.proofs.Once.{OneOutcome}
use Rattle.wide_lists.proofs.speeds
use Rattle.wide_lists.proofs.positions

pub speeds_once : OneOutcome promises.speeds.ended speeds.Reads.Post
speeds_once κs args r t u v p q = (p ∙ sym q, refl)

pub positions_once : OneOutcome promises.positions.ended positions.Reads.Post
positions_once κs args r t u v p q = (p ∙ sym q, refl)
