-- `arrivals::arrive` meets its contract: the telegrams that were passed are accepted. Assumes nothing.
use Rattle.group_laws.proofs.Walking.{Coming}
use Rattle.arrivals.proofs.arrive.Given as goal

abbrev pub invariant-loop-i : goal.invariant-loop-i
invariant-loop-i l = Coming l.s l.ns l.i l.start
