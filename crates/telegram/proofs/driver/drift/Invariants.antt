-- `telegram::driver::drift` meets its contract. The invariant is `Drifting`; the measure is how many bits are left. Assumes nothing.
use Prim.Native.Nat.{◌-◌}
use Rattle.states.proofs.Drifting.{Drifting}
use Rattle.telegram.proofs.driver.drift.Given as goal

abbrev pub invariant-loop-k : goal.invariant-loop-k
invariant-loop-k l = Drifting l.n l.initial.t l.initial.c.at l.t l.c.at l.fields

abbrev pub decreases-loop-k : goal.decreases-loop-k
decreases-loop-k l = l.n - l.c.at
