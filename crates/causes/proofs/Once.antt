-- The promise of this crate is met by one answer alone. Assumes nothing.
use mathlib.Core.Path.{refl, sym, ◌∙◌}
use Rattle.causes.specs.contracts as promises
use Rattle.bits.proofs.Once.{OneOutcome}
use Rattle.causes.proofs.number

pub number_once : OneOutcome promises.number.ended number.Reads.Post
number_once κs args r t u v p q = (p ∙ sym q, refl)
