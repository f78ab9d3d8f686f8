-- Each promise of this crate is met by one outcome alone. Assumes nothing.
use mathlib.Core.Path.{refl, sym, ap, ◌∙◌}
use mathlib.Core.List.{List}
use Prim.Native.Nat.{ℕ}
use Rattle.metre_lists.specs.contracts as promises
use Rattle.bits.proofs.Once.{OneOutcome}
use Rattle.metre_lists.proofs.distance_put
use Rattle.metre_lists.proofs.distance_whole
use Rattle.metre_lists.proofs.list

pub whole_once : OneOutcome promises.distance_whole.ended distance_whole.Reads.Post
whole_once κs args r t u v p q = (p ∙ sym q, refl)

pub put_once : OneOutcome promises.distance_put.ended distance_put.Reads.Post
put_once κs args r t u v p q = (refl, ap (λ (out : List ℕ). (u.0, (u.1.0, (u.1.1.0, (out, u.1.1.1.1))))) (p ∙ sym q))

pub list_once : OneOutcome promises.list.ended list.Reads.Post
list_once κs args r t u v p q =
    (p.0 ∙ sym q.0, ap (λ (out : List ℕ). (u.0, (u.1.0, (u.1.1.0, (u.1.1.1.0, (u.1.1.1.1.0, (out, u.1.1.1.1.1.1))))))) (p.1 ∙ sym q.1))
