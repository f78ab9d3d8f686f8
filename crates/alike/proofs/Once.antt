-- The promise of `says_same` is met by one answer and one final contents of each of the two buffers alone. Assumes nothing.
use mathlib.Core.Path.{sym, ap₂, ◌∙◌}
use mathlib.Core.List.{List}
use Prim.Native.Nat.{ℕ}
use Rattle.alike.specs.contracts as promises
use Rattle.bits.proofs.Once.{OneOutcome}
use Rattle.alike.proofs.Numbers.{alike_is}
use Rattle.alike.proofs.says_same

pub says_same_once : OneOutcome promises.says_same.ended says_same.Reads.Post
says_same_once κs args r t u v p q = (
  alike_is r t (p.answers ∙ sym q.answers),
  ap₂ (λ (x y : List ℕ). (u.0, (u.1.0, (u.1.1.0, (u.1.1.1.0, (x, (y, u.1.1.1.1.1.1))))))) (p.first ∙ sym q.first) (p.second ∙ sym q.second),
)
