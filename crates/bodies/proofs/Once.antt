-- Each promise of this crate is met by one answer alone. Assumes nothing.
use mathlib.Core.Path.{refl, sym, ◌∙◌}
use Rattle.bodies.specs.contracts as promises
use Rattle.bits.proofs.Once.{OneOutcome}
use Rattle.bodies.proofs.sized
use Rattle.bodies.proofs.with_radio
use Rattle.bodies.proofs.track
use Rattle.bodies.proofs.restricted
use Rattle.bodies.proofs.stopping
use Rattle.bodies.proofs.text

pub sized_once : OneOutcome promises.sized.ended sized.Reads.Post
sized_once κs args r t u v p q = (p ∙ sym q, refl)

pub with_radio_once : OneOutcome promises.with_radio.ended with_radio.Reads.Post
with_radio_once κs args r t u v p q = (p ∙ sym q, refl)

pub track_once : OneOutcome promises.track.ended track.Reads.Post
track_once κs args r t u v p q = (p ∙ sym q, refl)

pub restricted_once : OneOutcome promises.restricted.ended restricted.Reads.Post
restricted_once κs args r t u v p q = (p ∙ sym q, refl)

pub stopping_once : OneOutcome promises.stopping.ended stopping.Reads.Post
stopping_once κs args r t u v p q = (p ∙ sym q, refl)

pub text_once : OneOutcome promises.text.ended text.Reads.Post
text_once κs args r t u v p q = (p ∙ sym q, refl)
