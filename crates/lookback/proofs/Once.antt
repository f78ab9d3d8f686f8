-- Each promise of this crate is met by one answer alone. Assumes nothing.
use mathlib.Core.Path.{refl, sym, ◌∙◌}
use Rattle.lookback.specs.contracts as promises
use Rattle.bits.proofs.Once.{OneOutcome}
use Rattle.lookback.proofs.Middle.moved
use Rattle.lookback.proofs.collides_from_both
use Rattle.lookback.proofs.collides_in_bits
use Rattle.lookback.proofs.row_meets
use Rattle.lookback.proofs.state_collides

pub collides_once : OneOutcome promises.collides_in_bits.ended collides_in_bits.Reads.Post
collides_once κs args r t u v p q = (p ∙ sym q, refl)

pub from_both_once : OneOutcome promises.collides_from_both.ended collides_from_both.Reads.Post
from_both_once κs args r t u v p q = (p ∙ sym q, refl)

pub moved_once : OneOutcome promises.Middle.moved.ended moved.Reads.Post
moved_once κs args r t u v p q = (p ∙ sym q, refl)

pub state_collides_once : OneOutcome promises.state_collides.ended state_collides.Reads.Post
state_collides_once κs args r t u v p q = (p ∙ sym q, refl)

pub row_meets_once : OneOutcome promises.row_meets.ended row_meets.Reads.Post
row_meets_once κs args r t u v p q = (p ∙ sym q, refl)
