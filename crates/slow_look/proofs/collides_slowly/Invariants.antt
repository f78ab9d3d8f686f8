-- `slow_look::collides_slowly` meets its contract: no packet that was passed collides with this one, and those from the cursor on are
-- left. The measure is how many bits are left. Assumes nothing.
use Prim.Native.Nat.{◌-◌}
use Rattle.states.proofs.Hopping.{Hopping}
use Rattle.slow_look.proofs.collides_slowly.Given as goal

abbrev pub invariant-loop-a : goal.invariant-loop-a
invariant-loop-a l = Hopping l.s l.stop l.id l.dir l.c.at

abbrev pub decreases-loop-a : goal.decreases-loop-a
decreases-loop-a l = l.stop - l.c.at
