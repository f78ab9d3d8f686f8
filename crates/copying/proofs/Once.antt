-- The promise of this crate is met by one outcome alone. Assumes nothing.
use mathlib.Core.Path.{refl, sym, ap, ◌∙◌}
use mathlib.Core.List.{List}
use Prim.Native.Nat.{ℕ}
use Rattle.copying.specs.contracts as promises
use Rattle.word64.proofs.Once.{OneOutcome}
use Rattle.copying.proofs.copy

pub copy_once : OneOutcome promises.copy.ended copy.Reads.Post
copy_once κs args r t u v p q = (refl, ap (λ (out : List ℕ). (u.0, (out, u.1.1))) (p ∙ sym q))
