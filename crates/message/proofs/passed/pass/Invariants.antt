-- `message::passed::pass` meets its contract: none that was passed collides, and the table has them all. The measure is how many bits are left. Assumes nothing.
use Prim.Native.Nat.{◌-◌}
use lib.ListN.{drop}
use Rattle.sightings.specs.Sightings.{glimpses}
use Rattle.message.proofs.Hops.{Hopping}
use Rattle.message.proofs.passed.pass.Given as goal

abbrev pub invariant-loop-id : goal.invariant-loop-id
invariant-loop-id l = Hopping l.k (drop l.b.seat.start l.s) l.stop (glimpses (drop l.b.seat.start l.s) l.b.seat.n) l.initial.seen l.seen l.at l.count

abbrev pub decreases-loop-id : goal.decreases-loop-id
decreases-loop-id l = l.stop - l.at
