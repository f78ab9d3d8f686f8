-- Each promise of this crate is met by one answer alone. Assumes nothing.
use mathlib.Core.Path.{refl, sym, ◌∙◌}
use Rattle.parse.specs.contracts as promises
use Rattle.bits.proofs.Once.{OneOutcome}
use Rattle.parse.proofs.decimal_at
use Rattle.parse.proofs.digits_at
use Rattle.parse.proofs.places_at

pub decimal_once : OneOutcome promises.decimal_at.ended decimal_at.Reads.Post
decimal_once κs args r t u v p q = (p ∙ sym q, refl)

pub digits_once : OneOutcome promises.digits_at.ended digits_at.Reads.Post
digits_once κs args r t u v p q = (p ∙ sym q, refl)

pub places_once : OneOutcome promises.places_at.ended places_at.Reads.Post
places_once κs args r t u v p q = (p ∙ sym q, refl)
