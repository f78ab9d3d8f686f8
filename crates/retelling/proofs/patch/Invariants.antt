-- `retelling::patch` meets its contract: with the packets that are left put still, all of them are. The measure is how many bits are left. Assumes nothing.
use Prim.Native.Nat.{◌+◌, ◌-◌}
use Rattle.retelling.proofs.Packets.{Walking}
use Rattle.retelling.proofs.patch.Given as goal

abbrev pub invariant-loop-x : goal.invariant-loop-x
invariant-loop-x l = Walking l.s l.n l.initial.out l.x l.out

abbrev pub decreases-loop-x : goal.decreases-loop-x
decreases-loop-x l = l.n + 8200 - l.x
