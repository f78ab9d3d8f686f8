-- Each promise of this crate is met by one answer alone. Assumes nothing.
use mathlib.Core.Path.{refl, sym, ◌∙◌}
use Rattle.headers.specs.contracts as promises
use Rattle.bits.proofs.Once.{OneOutcome}
use Rattle.headers.proofs.front
use Rattle.headers.proofs.identity
use Rattle.headers.proofs.belongs
use Rattle.headers.proofs.same_body
use Rattle.headers.proofs.counters_match
use Rattle.headers.proofs.latest

pub front_once : OneOutcome promises.front.ended front.Reads.Post
front_once κs args r t u v p q = (p ∙ sym q, refl)

pub identity_once : OneOutcome promises.identity.ended identity.Reads.Post
identity_once κs args r t u v p q = (p ∙ sym q, refl)

pub belongs_once : OneOutcome promises.belongs.ended belongs.Reads.Post
belongs_once κs args r t u v p q = (p ∙ sym q, refl)

pub same_body_once : OneOutcome promises.same_body.ended same_body.Reads.Post
same_body_once κs args r t u v p q = (p ∙ sym q, refl)

pub counters_match_once : OneOutcome promises.counters_match.ended counters_match.Reads.Post
counters_match_once κs args r t u v p q = (p ∙ sym q, refl)

pub latest_once : OneOutcome promises.latest.ended latest.Reads.Post
latest_once κs args r t u v p q = (p ∙ sym q, refl)
