-- Each promise of this crate is met by one number alone, and that of the normaliser by one final contents of what is lent. Assumes nothing.
use mathlib.Core.Path.{refl, sym, ap, ◌∙◌}
use mathlib.Core.List.{List}
use Prim.Native.Nat.{ℕ}
use Rattle.sinkerpost.specs.contracts as promises
use Rattle.bits.proofs.Once.{OneOutcome}
use Rattle.sinkerpost.proofs.sinkerpost_check
use Rattle.sinkerpost.proofs.sinkerpost_normalise

pub check_once : OneOutcome promises.sinkerpost_check.ended sinkerpost_check.Reads.Post
check_once κs args r t u v p q = (p ∙ sym q, refl)

pub normalise_once : OneOutcome promises.sinkerpost_normalise.ended sinkerpost_normalise.Reads.Post
normalise_once κs args r t u v p q =
    (p.answers ∙ sym q.answers, ap (λ (out : List ℕ). (u.0, (u.1.0, (out, u.1.1.1)))) (p.contents ∙ sym q.contents))
