-- `lookback::met_from_both` meets its contract: no packet before the bit p collides with this one, and if the hops come to mid, none before the bit q does.
-- The measure is how many bits are left to mid. Assumes nothing.
use Prim.Native.Nat.{◌-◌}
use Rattle.states.proofs.Hopping.{Hopping}
use Rattle.lookback.proofs.met_from_both.Given as goal

abbrev pub invariant-loop-p : goal.invariant-loop-p
invariant-loop-p l = Hopping l.s l.stop l.id l.dir l.p × (Hopping l.s l.stop l.id l.dir l.mid → Hopping l.s l.stop l.id l.dir l.q)

abbrev pub decreases-loop-p : goal.decreases-loop-p
decreases-loop-p l = l.mid - l.p
