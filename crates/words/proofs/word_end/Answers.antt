-- `words::word_end` meets its contract: it is `until` for a space. Assumes nothing.
use Rattle.words.proofs.word_end.Goals as goal

pub returns : goal.returns
returns c = c.until.ensures
