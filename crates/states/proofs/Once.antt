-- Each promise of this crate is met by one answer alone. Assumes nothing.
use mathlib.Core.Path.{refl, sym, ◌∙◌}
use Rattle.states.specs.contracts as promises
use Rattle.bits.proofs.Once.{OneOutcome}
use Rattle.states.proofs.Todo.at
use Rattle.states.proofs.State.fresh

pub at_once : OneOutcome promises.Todo.at.ended at.Reads.Post
at_once κs args r t u v p q = (p ∙ sym q, refl)

pub fresh_once : OneOutcome promises.State.fresh.ended fresh.Reads.Post
fresh_once κs args r t u v p q = (p ∙ sym q, refl)
