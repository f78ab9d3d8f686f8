-- The promise of `renormalised` is met by one answer and one final contents of each of the two buffers alone. Assumes nothing.
use mathlib.Core.Path.{sym, ap₂, ◌∙◌}
use mathlib.Core.List.{List}
use Prim.Native.Nat.{ℕ}
use Rattle.normals.specs.contracts as promises
use Rattle.bits.proofs.Once.{OneOutcome}
use Rattle.format.proofs.Numbers.{answer_is}
use Rattle.normals.proofs.renormalised

pub renormalised_once : OneOutcome promises.renormalised.ended renormalised.Reads.Post
renormalised_once κs args r t u v p q = (
  answer_is r t (p.answers ∙ sym q.answers),
  ap₂ (λ (x y : List ℕ). (u.0, (u.1.0, (x, (y, u.1.1.1.1))))) (p.once ∙ sym q.once) (p.twice ∙ sym q.twice),
)
