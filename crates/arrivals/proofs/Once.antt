-- The promise of this crate is met by one answer alone. Assumes nothing.
use mathlib.Core.Path.{refl, sym, ◌∙◌}
use Rattle.arrivals.specs.contracts as promises
use Rattle.bits.proofs.Once.{OneOutcome}
use Rattle.arrivals.proofs.arrive

pub arrive_once : OneOutcome promises.arrive.ended arrive.Reads.Post
arrive_once κs args r t u v p q = (p ∙ sym q, refl)
