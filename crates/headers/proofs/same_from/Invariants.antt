-- `headers::same_from` meets its contract: what was passed is the same in both. The measure is how many bits are left. Assumes nothing.
use Prim.Native.Nat.{◌-◌}
use lib.ListN.{drop}
use Rattle.headers.proofs.Same.{Pairing}
use Rattle.headers.proofs.same_from.Given as goal

abbrev pub invariant-loop-at : goal.invariant-loop-at
invariant-loop-at l = Pairing (drop l.a l.s) (drop l.b l.s) l.n l.at

abbrev pub decreases-loop-at : goal.decreases-loop-at
decreases-loop-at l = l.n - l.at
