-- `answer_text::listed` meets its contract: its pieces join one behind the other. Assumes nothing.
use Rattle.queue.proofs.Joining.{joins_then}
use Rattle.answer_text.proofs.listed.Goals as goal

pub returns : goal.returns
returns c = joins_then (joins_then (joins_then c.say-a.ensures c.number-b.ensures) c.numbers-c.ensures) c.put.ensures
