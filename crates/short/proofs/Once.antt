-- Each promise of this crate is met by one answer alone. Assumes nothing.
use mathlib.Core.Path.{refl, sym, ◌∙◌}
use Rattle.short.specs.contracts as promises
use Rattle.bits.proofs.Once.{OneOutcome}
use Rattle.short.proofs.size.sized
use Rattle.short.proofs.size.fitting
use Rattle.short.proofs.unread
use Rattle.short.proofs.slight

pub sized_once : OneOutcome promises.size.sized.ended sized.Reads.Post
sized_once κs args r t u v p q = (p ∙ sym q, refl)

pub fitting_once : OneOutcome promises.size.fitting.ended fitting.Reads.Post
fitting_once κs args r t u v p q = (p ∙ sym q, refl)

pub unread_once : OneOutcome promises.unread.ended unread.Reads.Post
unread_once κs args r t u v p q = (p ∙ sym q, refl)

pub slight_once : OneOutcome promises.slight.ended slight.Reads.Post
slight_once κs args r t u v p q = (p ∙ sym q, refl)
