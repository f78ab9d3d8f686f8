-- `queue::singly` meets its contract. The loop's invariant: the first i characters of the piece have joined. Assumes nothing.
use native.Mathlib.Omega.{arith}
use Rattle.queue.proofs.Joining.{joins_nothing, joins_length, joins_more, joins_all}
use Rattle.queue.proofs.singly.Goals as goal

pub loop-c-init : goal.loop-c-init
loop-c-init c = joins_nothing c.args.q c.args.out.now

pub loop-c-preserved : goal.loop-c-preserved
loop-c-preserved c = joins_more c.args.piece.now c.loop-c.c-index (omega arith) c.loop-c.invariant c.put-r.ensures

pub shape_of-out : goal.shape_of-out
shape_of-out c = joins_length c.loop-c.invariant

pub returns : goal.returns
returns c = joins_all c.args.piece.now c.loop-c.c-index (omega arith) c.loop-c.invariant
