-- `answers::accepted` meets its contract: its pieces join one behind the other. Assumes nothing.
use Rattle.queue.proofs.Joining.{joins_then}
use Rattle.answers.proofs.accepted.Goals as goal

pub returns : goal.returns
returns c = joins_then (joins_then (joins_then (joins_then c.say-a.ensures c.number-b.ensures) c.put-c.ensures) c.number-d.ensures) c.put.ensures
