-- Each promise of this crate is met by one answer alone. Assumes nothing.
use mathlib.Core.Path.{refl, sym, ◌∙◌}
use Rattle.clashes.specs.contracts as promises
use Rattle.bits.proofs.Once.{OneOutcome}
use Rattle.clashes.proofs.exempt
use Rattle.clashes.proofs.meets

pub exempt_once : OneOutcome promises.exempt.ended exempt.Reads.Post
exempt_once κs args r t u v p q = (p ∙ sym q, refl)

pub meets_once : OneOutcome promises.meets.ended meets.Reads.Post
meets_once κs args r t u v p q = (p ∙ sym q, refl)
