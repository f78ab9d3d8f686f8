-- `arrivals::arrive` meets its contract: the telegrams that were passed are accepted. Assumes nothing.
use Rattle.group_laws.proofs.Walking.{coming_first, coming_on, coming_stops, coming_all, part_most}
use native.Mathlib.Omega.{arith}
use Rattle.arrivals.proofs.arrive.Goals as goal

pub loop-i-init : goal.loop-i-init
loop-i-init c = coming_first _ _

pub ends-end-requires : goal.ends-end-requires
ends-end-requires c = c.loop-i.invariant.within

pub check_part-requires : goal.check_part-requires
check_part-requires c = (omega (arith, c.ends-end.ensures), part_most c.loop-i.invariant c.loop-i-test.true c.ends-end.result c.ends-end.ensures)

pub returns-in-Err : goal.returns-in-Err
returns-in-Err c = coming_stops c.loop-i.invariant c.loop-i-test.true c.ends-end.result c.ends-end.ensures _ c.in-Err.ensures

pub loop-i-preserved : goal.loop-i-preserved
loop-i-preserved c = coming_on c.loop-i.invariant c.loop-i-test.true c.ends-end.result c.ends-end.ensures _ c.in_default.ensures

pub returns : goal.returns
returns c = coming_all c.loop-i.invariant c.loop-i-test.false
