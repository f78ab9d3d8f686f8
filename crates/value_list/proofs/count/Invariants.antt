-- `value_list::count` meets its contract. The loop's invariant, `Along`: n values were met, and those from at on follow. The measure is the room
-- that is left. Assumes nothing.
use Prim.Native.Nat.{◌-◌}
use Rattle.value_list.proofs.Taking.{Along}
use Rattle.value_list.proofs.count.Given as goal

abbrev pub invariant-loop-at : goal.invariant-loop-at
invariant-loop-at l = Along l.text l.room l.n l.at

abbrev pub decreases-loop-at : goal.decreases-loop-at
decreases-loop-at l = l.room - l.n
