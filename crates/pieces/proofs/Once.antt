-- Each promise of this crate is met by one answer alone, and by one final contents of what is lent. Assumes nothing.
use mathlib.Core.Path.{refl, sym, ap, ◌∙◌}
use mathlib.Core.List.{List}
use Prim.Native.Nat.{ℕ}
use Rattle.pieces.specs.contracts as promises
use Rattle.bits.proofs.Once.{OneOutcome}
use Rattle.pieces.proofs.begins
use Rattle.pieces.proofs.append

pub begins_once : OneOutcome promises.begins.ended begins.Reads.Post
begins_once κs args r t u v p q = (p ∙ sym q, refl)

pub append_once : OneOutcome promises.append.ended append.Reads.Post
append_once κs args r t u v p q =
    (p.ends ∙ sym q.ends, ap (λ (out : List ℕ). (out, u.1)) (p.text ∙ sym q.text))
