-- The promise of `export` is met by one reply and one final contents of what is lent alone. Assumes nothing.
use mathlib.Core.Path.{sym, ap, ◌∙◌}
use mathlib.Core.List.{List}
use Prim.Native.Nat.{ℕ}
use Rattle.sheet_out.specs.contracts as promises
use Rattle.bits.proofs.Once.{OneOutcome}
use Rattle.sheet.proofs.Numbers.{export_answer}
use Rattle.sheet_out.proofs.export

pub export_once : OneOutcome promises.export.ended export.Reads.Post
export_once κs args r t u v p q =
    (export_answer p ∙ sym (export_answer q), ap (λ (out : List ℕ). (u.0, (u.1.0, (out, u.1.1.1)))) (p.contents ∙ sym q.contents))
