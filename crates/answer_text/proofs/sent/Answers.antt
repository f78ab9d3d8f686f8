-- `answer_text::sent` meets its contract: its pieces join one behind the other. Assumes nothing.
use Rattle.queue.proofs.Joining.{joins_then}
use Rattle.answer_text.specs.Texts.{sent_text}
use Rattle.answer_text.proofs.sent.Goals as goal

pub returns-in-Ok : goal.returns-in-Ok
unfolding sent_text
returns-in-Ok c = rw c.in-Ok.is (joins_then (joins_then c.say-a.ensures c.characters-b.ensures) c.put.ensures)

pub returns-in-Err : goal.returns-in-Err
unfolding sent_text
returns-in-Err c = rw c.in-Err.is c.refused.ensures
