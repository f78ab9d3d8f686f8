-- `group_text::each` meets its contract: the first i packets have joined. Assumes nothing.
use Rattle.queue.proofs.Joining.{joins_length}
use Rattle.group_text.proofs.Behind.{packets_nothing, packets_more, packets_all}
use native.Mathlib.Omega.{arith}
use Rattle.group_text.proofs.each.Goals as goal

pub loop-i-init : goal.loop-i-init
loop-i-init c = packets_nothing c.args.pigs.now c.args.numbers.now c.args.q c.args.out.now

pub bounds-pigs-i : goal.bounds-pigs-i
bounds-pigs-i c = omega (arith, c.lower-n.ensures, c.lower.ensures)

pub bounds-numbers-i : goal.bounds-numbers-i
bounds-numbers-i c = omega (arith, c.lower-n.ensures, c.lower.ensures)

pub loop-i-preserved : goal.loop-i-preserved
loop-i-preserved c = packets_more c.args.pigs.now c.args.numbers.now c.loop-i.i (omega (arith, c.lower-n.ensures, c.lower.ensures)) (omega (arith, c.lower-n.ensures, c.lower.ensures)) c.loop-i.invariant c.packet-r.ensures

pub shape_of-out : goal.shape_of-out
shape_of-out c = joins_length c.loop-i.invariant

pub returns : goal.returns
returns c = packets_all c.args.pigs.now c.args.numbers.now c.args.count c.loop-i.i (omega (arith, c.lower-n.ensures, c.lower.ensures)) c.loop-i.invariant
