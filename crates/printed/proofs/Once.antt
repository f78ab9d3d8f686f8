-- The promise of `from_line` is met by one answer alone, and by one final contents of what is lent. `line_buffer` promises a buffer that is long
-- enough: a longer one is that too, and what stands in it is not read. Assumes nothing.
use mathlib.Core.Path.{sym, ap, ◌∙◌}
use mathlib.Core.List.{List}
use Prim.Native.Nat.{ℕ}
use Rattle.printed.specs.contracts as promises
use Rattle.bits.proofs.Once.{OneOutcome}
use Rattle.printed.proofs.from_line

pub from_line_once : OneOutcome promises.from_line.ended from_line.Reads.Post
from_line_once κs args r t u v p q =
    (p.here ∙ sym q.here, ap (λ (out : List ℕ). (u.0, (out, u.1.1))) (p.is ∙ sym q.is))
