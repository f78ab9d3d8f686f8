-- The promises of `rewritten` and `reread` are each met by one answer and one final contents of each of the two buffers alone. Assumes nothing.
use mathlib.Core.Path.{sym, ap₂, ◌∙◌}
use mathlib.Core.List.{List}
use Prim.Native.Nat.{ℕ}
use Rattle.again.specs.contracts as promises
use Rattle.bits.proofs.Once.{OneOutcome}
use Rattle.format.proofs.Numbers.{answer_is}
use Rattle.again.proofs.rewritten
use Rattle.again.proofs.reread

pub rewritten_once : OneOutcome promises.rewritten.ended rewritten.Reads.Post
rewritten_once κs args r t u v p q = (
  answer_is r t (p.answers ∙ sym q.answers),
  ap₂ (λ (run out : List ℕ). (u.0, (u.1.0, (run, (out, u.1.1.1.1))))) (p.values ∙ sym q.values) (p.telegram ∙ sym q.telegram),
)

pub reread_once : OneOutcome promises.reread.ended reread.Reads.Post
reread_once κs args r t u v p q = (
  answer_is r t (p.answers ∙ sym q.answers),
  ap₂ (λ (out run : List ℕ). (u.0, (out, (run, u.1.1.1)))) (p.telegram ∙ sym q.telegram) (p.values ∙ sym q.values),
)
