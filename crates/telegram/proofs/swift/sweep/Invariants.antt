-- `telegram::swift::sweep` meets its contract: from packet's edge to packet's edge. The measure is how many bits are left. Assumes nothing.
use mathlib.Core.Bool.{true}
use mathlib.Core.Path.{◌≡◌}
use Prim.Native.Nat.{◌-◌}
use Rattle.passing.proofs.Sweeping.{Edge}
use Rattle.telling.proofs.Hopped.{Hopped}
use Rattle.telegram.proofs.swift.sweep.Given as goal

abbrev pub invariant-loop-w : goal.invariant-loop-w
invariant-loop-w l = Edge l.s l.n l.c.at l.count × (l.metric ≡ true → Hopped l.s 50 l.c.at)

abbrev pub decreases-loop-w : goal.decreases-loop-w
decreases-loop-w l = l.n - l.c.at
