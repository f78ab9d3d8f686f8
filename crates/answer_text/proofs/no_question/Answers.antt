-- `answer_text::no_question` meets its contract: it is the piece that joins. Assumes nothing.
use Rattle.answer_text.proofs.no_question.Goals as goal

pub returns : goal.returns
returns c = c.say.ensures
