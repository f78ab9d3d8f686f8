-- The promise of this crate is met by one outcome alone. Assumes nothing.
use mathlib.Core.Path.{sym, ap₂, ◌∙◌}
use mathlib.Core.List.{List}
use Prim.Native.Nat.{ℕ}
use Rattle.group_words.specs.contracts as promises
use Rattle.bits.proofs.Once.{OneOutcome}
use Rattle.group_words.proofs.collect

pub collect_once : OneOutcome promises.collect.ended collect.Reads.Post
collect_once κs args r t u v p q = (
  p.answer ∙ sym q.answer,
  ap₂ (λ (bytes ns : List ℕ). (u.0, (bytes, (ns, u.1.1.1)))) (p.bytes_held ∙ sym q.bytes_held) (p.counts_held ∙ sym q.counts_held),
)
