-- Each promise of this crate is met by one answer and one final contents of what is lent alone. Assumes nothing.
use mathlib.Core.Path.{refl, sym, ap, ◌∙◌}
use mathlib.Core.List.{List}
use Prim.Native.Nat.{ℕ}
use Rattle.store.specs.contracts as promises
use Rattle.bits.proofs.Once.{OneOutcome}
use Rattle.store.proofs.lay
use Rattle.store.proofs.put

pub put_once : OneOutcome promises.put.ended put.Reads.Post
put_once κs args r t u v p q =
    (p.answer ∙ sym q.answer, ap (λ (out : List ℕ). (out, u.1)) (p.contents ∙ sym q.contents))

pub lay_once : OneOutcome promises.lay.ended lay.Reads.Post
lay_once κs args r t u v p q = (refl, ap (λ (out : List ℕ). (out, u.1)) (p ∙ sym q))
