-- Each promise of this crate is met by one answer alone. Assumes nothing.
use mathlib.Core.Path.{refl, sym, ◌∙◌}
use Rattle.seats.specs.contracts as promises
use Rattle.bits.proofs.Once.{OneOutcome}
use Rattle.seats.proofs.Telegrams.balise_at
use Rattle.seats.proofs.behind
use Rattle.seats.proofs.Telegrams.tally
use Rattle.seats.proofs.Telegrams.dup
use Rattle.seats.proofs.Telegrams.counter
use Rattle.seats.proofs.Telegrams.same_packets

pub behind_once : OneOutcome promises.behind.ended behind.Reads.Post
behind_once κs args r t u v p q = (p ∙ sym q, refl)

pub tally_once : OneOutcome promises.Telegrams.tally.ended tally.Reads.Post
tally_once κs args r t u v p q = (p ∙ sym q, refl)

pub dup_once : OneOutcome promises.Telegrams.dup.ended dup.Reads.Post
dup_once κs args r t u v p q = (p ∙ sym q, refl)

pub counter_once : OneOutcome promises.Telegrams.counter.ended counter.Reads.Post
counter_once κs args r t u v p q = (p ∙ sym q, refl)

pub same_packets_once : OneOutcome promises.Telegrams.same_packets.ended same_packets.Reads.Post
same_packets_once κs args r t u v p q = (p ∙ sym q, refl)

pub balise_at_once : OneOutcome promises.Telegrams.balise_at.ended balise_at.Reads.Post
balise_at_once κs args r t u v p q = (p ∙ sym q, refl)
