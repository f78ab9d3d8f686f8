-- The promise of this crate is met by one outcome alone. Assumes nothing.
use mathlib.Core.Path.{refl, sym, ap, ◌∙◌}
use mathlib.Core.List.{List}
use Prim.Native.Nat.{ℕ}
use Rattle.retelling.specs.contracts as promises
use Rattle.bits.proofs.Once.{OneOutcome}
use Rattle.retelling.proofs.patch

pub patch_once : OneOutcome promises.patch.ended patch.Reads.Post
patch_once κs args r t u v p q = (refl, ap (λ (out : List ℕ). (u.0, (u.1.0, (out, u.1.1.1)))) (p ∙ sym q))
