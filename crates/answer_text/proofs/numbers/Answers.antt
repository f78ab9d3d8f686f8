-- `answer_text::numbers` meets its contract. The loop's invariant: the first i values have joined. Assumes nothing.
use native.Mathlib.Omega.{arith}
use Rattle.queue.proofs.Joining.{joins_length}
use Rattle.answer_text.proofs.Spaced.{spaced_nothing, spaced_more, spaced_all}
use Rattle.answer_text.proofs.numbers.Goals as goal

pub loop-v-init : goal.loop-v-init
loop-v-init c = spaced_nothing c.args.q c.args.out.now

pub loop-v-preserved : goal.loop-v-preserved
loop-v-preserved c = spaced_more c.args.run.now c.loop-v.v-index (omega arith) c.loop-v.invariant c.put-s.ensures c.number-r.ensures

pub shape_of-out : goal.shape_of-out
shape_of-out c = joins_length c.loop-v.invariant

pub returns : goal.returns
returns c = spaced_all c.args.run.now c.loop-v.v-index (omega arith) c.loop-v.invariant
