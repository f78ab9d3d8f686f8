-- The promise of this crate is met by one answer alone. Assumes nothing.
use mathlib.Core.Path.{refl, sym, ◌∙◌}
use Rattle.verdicts.specs.contracts as promises
use Rattle.bits.proofs.Once.{OneOutcome}
use Rattle.verdicts.proofs.judge

pub judge_once : OneOutcome promises.judge.ended judge.Reads.Post
judge_once κs args r t u v p q = (p ∙ sym q, refl)
