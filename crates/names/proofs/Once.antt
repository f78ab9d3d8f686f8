-- The promise of `append_name` is met by one end and one final contents alone. Assumes nothing.
use mathlib.Core.Path.{sym, ap, ◌∙◌}
use mathlib.Core.List.{List}
use Prim.Native.Nat.{ℕ}
use Rattle.names.specs.contracts as promises
use Rattle.bits.proofs.Once.{OneOutcome}
use Rattle.names.proofs.append_name

pub append_name_once : OneOutcome promises.append_name.ended append_name.Reads.Post
append_name_once κs args r t u v p q =
    (p.ends ∙ sym q.ends, ap (λ (out : List ℕ). (out, u.1)) (p.text ∙ sym q.text))
