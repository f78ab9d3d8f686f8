-- The promise of `values_in` is met by one answer alone, and by one final contents of what is lent. Assumes nothing.
use mathlib.Core.Path.{sym, ap, ◌∙◌}
use mathlib.Core.List.{List}
use Prim.Native.Nat.{ℕ}
use Rattle.value_list.specs.contracts as promises
use Rattle.bits.proofs.Once.{OneOutcome}
use Rattle.value_list.proofs.values_in

pub values_in_once : OneOutcome promises.values_in.ended values_in.Reads.Post
values_in_once κs args r t u v p q =
    (p.answers ∙ sym q.answers, ap (λ (values : List ℕ). (u.0, (values, u.1.1))) (p.contents ∙ sym q.contents))
