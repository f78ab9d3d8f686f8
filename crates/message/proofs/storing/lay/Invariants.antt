-- `message::storing::lay` meets its contract: those that were passed are in both runs. Assumes nothing.
use Rattle.message.proofs.Hops.{Laying}
use Rattle.message.proofs.storing.lay.Given as goal

abbrev pub invariant-loop-j : goal.invariant-loop-j
invariant-loop-j l = Laying l.k l.i l.count l.initial.pigs l.initial.numbers l.pigs l.numbers l.j
