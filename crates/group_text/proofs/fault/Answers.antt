-- `group_text::fault` meets its contract: its pieces join one behind the other. Assumes nothing.
use Rattle.queue.proofs.Joining.{joins_then, joins_length}
use Rattle.group_text.proofs.fault.Goals as goal

pub shape_of-out : goal.shape_of-out
shape_of-out c = joins_length (joins_then (joins_then (joins_then (joins_then (joins_then (joins_then c.say-a.ensures c.number-b.ensures) c.put-c.ensures) c.number-d.ensures) c.put-e.ensures) c.number-f.ensures) c.put.ensures)

pub returns : goal.returns
returns c = joins_then (joins_then (joins_then (joins_then (joins_then (joins_then c.say-a.ensures c.number-b.ensures) c.put-c.ensures) c.number-d.ensures) c.put-e.ensures) c.number-f.ensures) c.put.ensures
