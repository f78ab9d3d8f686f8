-- The promise of this crate is met by one answer alone. Assumes nothing.
use mathlib.Core.Path.{refl, sym, ◌∙◌}
use Rattle.spans.specs.contracts as promises
use Rattle.bits.proofs.Once.{OneOutcome}
use Rattle.spans.proofs.packet

pub packet_once : OneOutcome promises.packet.ended packet.Reads.Post
packet_once κs args r t u v p q = (p ∙ sym q, refl)
