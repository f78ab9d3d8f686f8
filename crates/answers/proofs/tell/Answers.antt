-- `answers::tell` meets its contract: the text of an answer that accepts, or of a refusal. Assumes nothing.
use Rattle.answers.specs.Text.{text_of}
use Rattle.answers.proofs.tell.Goals as goal

pub returns-in-Ok : goal.returns-in-Ok
unfolding text_of
returns-in-Ok c = rw c.in-Ok.is c.accepted.ensures

pub returns-in-Err : goal.returns-in-Err
unfolding text_of
returns-in-Err c = rw c.in-Err.is c.refused.ensures
