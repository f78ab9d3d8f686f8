-- Each promise of this crate is met by one answer alone. Assumes nothing.
use mathlib.Core.Path.{refl, sym, ◌∙◌}
use Rattle.bits.specs.contracts as promises
use Rattle.bits.proofs.Cursor.take
use Rattle.bits.proofs.Cursor.skip
use Rattle.bits.proofs.Cursor.ahead
use Rattle.bits.proofs.Cursor.look
pub use Rattle.word64.proofs.Once.{OneOutcome, OneOutcomeGiven}

pub take_once : OneOutcome promises.Cursor.take.ended take.Reads.Post
take_once κs args r t u v p q = (p ∙ sym q, refl)

pub skip_once : OneOutcome promises.Cursor.skip.ended skip.Reads.Post
skip_once κs args r t u v p q = (p ∙ sym q, refl)

pub ahead_once : OneOutcome promises.Cursor.ahead.ended ahead.Reads.Post
ahead_once κs args r t u v p q = (p ∙ sym q, refl)

pub look_once : OneOutcome promises.Cursor.look.ended look.Reads.Post
look_once κs args r t u v p q = (p ∙ sym q, refl)
