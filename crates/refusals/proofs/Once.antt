-- The promise of `number` is met by one answer alone. Assumes nothing.
use mathlib.Core.Path.{refl, sym, ◌∙◌}
use Rattle.refusals.specs.contracts as promises
use Rattle.bits.proofs.Once.{OneOutcome}
use Rattle.refusals.proofs.number

pub number_once : OneOutcome promises.number.ended number.Reads.Post
number_once κs args r t u v p q = (p ∙ sym q, refl)
