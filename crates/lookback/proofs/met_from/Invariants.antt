-- `lookback::met_from` meets its contract: no packet that was passed collides with this one, and those from the bit q on are left. The measure is how many
-- bits are left. Assumes nothing.
use Prim.Native.Nat.{◌-◌}
use Rattle.states.proofs.Hopping.{Hopping}
use Rattle.lookback.proofs.met_from.Given as goal

abbrev pub invariant-loop-q : goal.invariant-loop-q
invariant-loop-q l = Hopping l.s l.stop l.id l.dir l.edge → Hopping l.s l.stop l.id l.dir l.q

abbrev pub decreases-loop-q : goal.decreases-loop-q
decreases-loop-q l = l.stop - l.q
