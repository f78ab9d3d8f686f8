-- The promise of `import` is met by one reply and one final contents of what is lent alone. Assumes nothing.
use mathlib.Core.Path.{sym, ap, ◌∙◌}
use mathlib.Core.List.{List}
use Prim.Native.Nat.{ℕ}
use Rattle.sheet_in.specs.contracts as promises
use Rattle.bits.proofs.Once.{OneOutcome}
use Rattle.sheet.proofs.Numbers.{import_answer}
use Rattle.sheet_in.proofs.import

pub import_once : OneOutcome promises.import.ended import.Reads.Post
import_once κs args r t u v p q =
    (import_answer p ∙ sym (import_answer q), ap (λ (out : List ℕ). (u.0, (out, u.1.1))) (p.contents ∙ sym q.contents))
