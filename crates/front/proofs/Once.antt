-- The promise of `header` is met by one answer alone. Assumes nothing.
use mathlib.Core.Path.{refl, sym, ◌∙◌}
use Rattle.front.specs.contracts as promises
use Rattle.bits.proofs.Once.{OneOutcome}
use Rattle.front.proofs.header

pub header_once : OneOutcome promises.header.ended header.Reads.Post
header_once κs args r t u v p q = (p ∙ sym q, refl)
