-- `message::storing::store` meets its contract: the packets of the balises that were passed are in both runs. Assumes nothing.
use Rattle.message.proofs.Placing.{Storing}
use Rattle.message.proofs.storing.store.Given as goal

abbrev pub invariant-loop-k : goal.invariant-loop-k
invariant-loop-k l = Storing l.t.telegrams.bytes.now l.t.telegrams.ns.now l.initial.pigs l.initial.numbers l.k l.i l.pigs l.numbers
