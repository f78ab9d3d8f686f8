-- The promise of this crate is met by one answer, and one final contents of what is lent, alone. Assumes nothing.
use mathlib.Core.List.{List}
use mathlib.Core.Path.{sym, ap₂, ◌∙◌}
use Prim.Native.Nat.{ℕ}
use Rattle.message.specs.contracts as promises
use Rattle.bits.proofs.Once.{OneOutcome}
use Rattle.message.proofs.message

pub message_once : OneOutcome promises.message.ended message.Reads.Post
message_once κs args r t u v p q =
    (p.answers ∙ sym q.answers, ap₂ (λ (a b : List ℕ). (u.0, (u.1.0, (a, (b, u.1.1.1.1))))) (p.pigs_then ∙ sym q.pigs_then) (p.numbers_then ∙ sym q.numbers_then))
