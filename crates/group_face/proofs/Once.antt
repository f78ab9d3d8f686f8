-- The promise of this crate is met by one number, and one final contents of both runs, alone. Assumes nothing.
use mathlib.Core.List.{List}
use mathlib.Core.Path.{sym, ap₂, ◌∙◌}
use Prim.Native.Nat.{ℕ}
use Rattle.group_face.specs.contracts as promises
use Rattle.bits.proofs.Once.{OneOutcome}
use Rattle.group_face.proofs.sinkerpost_group

pub group_once : OneOutcome promises.sinkerpost_group.ended sinkerpost_group.Reads.Post
group_once κs args r t u v p q =
    (p.answers ∙ sym q.answers, ap₂ (λ (a b : List ℕ). (u.0, (u.1.0, (a, (b, u.1.1.1.1))))) (p.pigs_then ∙ sym q.pigs_then) (p.numbers_then ∙ sym q.numbers_then))
