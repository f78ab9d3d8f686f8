-- `value_list::store` meets its contract. The loop's invariant, `Storing`: the values that were met stand in front of what was there, and those
-- from at on follow. Assumes nothing.
use Rattle.value_list.proofs.Taking.{Storing}
use Rattle.value_list.proofs.store.Given as goal

abbrev pub invariant-loop-value : goal.invariant-loop-value
invariant-loop-value l = Storing l.text l.initial.values l.values l.value-index l.at
