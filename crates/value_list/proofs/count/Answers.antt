-- `value_list::count` meets its contract. The loop's invariant, `Along`: n values were met, and those from at on follow. The measure is the room
-- that is left. Assumes nothing.
use native.Mathlib.Omega.{arith}
use lib.Arith.{lt_of_le-ne}
use Rattle.value_list.proofs.Taking.{along_first, along_on, counts_all, stops_full, stops_valueless}
use Rattle.value_list.proofs.count.Goals as goal

pub loop-at-init : goal.loop-at-init
loop-at-init c = along_first c.args.text.now c.args.room

pub returns-then-n-room : goal.returns-then-n-room
returns-then-n-room c = stops_full c.loop-at.invariant c.loop-at-test.true c.if-n-room.true

pub returns-in_err-end : goal.returns-in_err-end
returns-in_err-end c = rw c.from_residual.ensures (stops_valueless c.loop-at.invariant c.loop-at-test.true c.in_err-end.ensures)

pub overflow_add-n : goal.overflow_add-n
overflow_add-n c = omega (arith, lt_of_le-ne c.loop-at.invariant.few c.if-n-room.false)

pub loop-at-smaller : goal.loop-at-smaller
loop-at-smaller c = omega (arith, lt_of_le-ne c.loop-at.invariant.few c.if-n-room.false)

pub loop-at-preserved : goal.loop-at-preserved
loop-at-preserved c = along_on c.loop-at.invariant _ _ (lt_of_le-ne c.loop-at.invariant.few c.if-n-room.false) (c.in_ok-end.ensures)

pub returns : goal.returns
returns c = counts_all c.loop-at.invariant c.loop-at-test.false
