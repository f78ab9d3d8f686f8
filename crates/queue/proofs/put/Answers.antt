-- `queue::put` meets its contract: one law for each place where the character goes. Assumes nothing.
use Rattle.queue.proofs.Joining.{joins_behind, joins_nowhere, joins_in_front}
use Rattle.queue.proofs.put.Goals as goal

pub returns-then-at-out : goal.returns-then-at-out
returns-then-at-out c = joins_behind c.args.c c.args.q c.args.out.now c.if-at-out.true

pub returns-then-out-eq0 : goal.returns-then-out-eq0
returns-then-out-eq0 c = joins_nowhere c.args.c c.args.q c.args.out.now c.if-out-eq0.true

pub returns : goal.returns
returns c = joins_in_front c.args.c c.args.q c.args.out.now c.if-at-out.false c.if-out-eq0.false c.flush-r.ensures
