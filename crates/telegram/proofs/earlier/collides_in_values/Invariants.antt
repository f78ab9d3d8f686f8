-- `telegram::earlier::collides_in_values` meets its contract: no packet among the values before the i-th collides with this one, and those from there
-- on are left. Assumes nothing.
use mathlib.Core.Path.{◌≡◌}
use Prim.Native.Nat.{◌+◌}
use Rattle.states.proofs.Walking.{Walking}
use Rattle.telegram.proofs.earlier.collides_in_values.Given as goal

abbrev pub invariant-loop-i : goal.invariant-loop-i
invariant-loop-i l = Walking l.values l.n l.id l.dir l.t l.i × (l.last + 1 ≡ l.n)
