-- Each promise of this crate is met by one answer alone, and by one final contents of what is lent. Assumes nothing.
use mathlib.Core.Path.{refl, sym, ap, ◌∙◌}
use mathlib.Core.List.{List}
use Prim.Native.Nat.{ℕ}
use Rattle.packing.specs.contracts as promises
use Rattle.bits.proofs.Once.{OneOutcome}
use Rattle.packing.proofs.pack
use Rattle.packing.proofs.character

pub pack_once : OneOutcome promises.pack.ended pack.Reads.Post
pack_once κs args r t u v p q =
    (p.answer ∙ sym q.answer, ap (λ (out : List ℕ). (u.0, (out, u.1.1))) (p.contents ∙ sym q.contents))

pub character_once : OneOutcome promises.character.ended character.Reads.Post
character_once κs args r t u v p q = (p ∙ sym q, refl)
