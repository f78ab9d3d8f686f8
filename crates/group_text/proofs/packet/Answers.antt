-- `group_text::packet` meets its contract: its pieces join one behind the other. Assumes nothing.
use Rattle.queue.proofs.Joining.{joins_then}
use Rattle.group_text.proofs.packet.Goals as goal

pub returns : goal.returns
returns c = joins_then (joins_then (joins_then c.put-a.ensures c.number-b.ensures) c.put-c.ensures) c.number.ensures
