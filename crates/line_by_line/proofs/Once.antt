-- The promise of `goes_on` is met by one answer alone. Assumes nothing.
use mathlib.Core.Path.{refl, sym, ◌∙◌}
use Rattle.line_by_line.specs.contracts as promises
use Rattle.word64.proofs.Once.{OneOutcome}
use Rattle.line_by_line.proofs.goes_on

pub goes_on_once : OneOutcome promises.goes_on.ended goes_on.Reads.Post
goes_on_once κs args r t u v p q = (p ∙ sym q, refl)
