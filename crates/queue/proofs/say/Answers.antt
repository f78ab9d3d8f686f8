-- `queue::say` meets its contract: a piece that finds room is put as its characters are. Assumes nothing.
use Rattle.queue.proofs.Bulk.{joins_at_once}
use Rattle.queue.proofs.say.Goals as goal

pub returns-then-roomy : goal.returns-then-roomy
returns-then-roomy c = joins_at_once c.args.q c.args.out.now c.args.piece.now _ _ (c.roomy.ensures c.if-roomy.true) c.append-end.ensures
