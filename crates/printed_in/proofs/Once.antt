-- The promise of `from_sheet` is met by one answer alone, and by one final contents of what is lent. Assumes nothing.
use mathlib.Core.Path.{sym, ap, ◌∙◌}
use mathlib.Core.List.{List}
use Prim.Native.Nat.{ℕ}
use Rattle.printed_in.specs.contracts as promises
use Rattle.bits.proofs.Once.{OneOutcome}
use Rattle.printed_in.proofs.from_sheet

pub from_sheet_once : OneOutcome promises.from_sheet.ended from_sheet.Reads.Post
from_sheet_once κs args r t u v p q =
    (p.here ∙ sym q.here, ap (λ (out : List ℕ). (u.0, (out, u.1.1))) (p.is ∙ sym q.is))
