-- `telegram::rows::Rows::width` meets its contract: the seven bits of a row's word above the act are the width of its field.
-- Assumes nothing.
use Rattle.format.proofs.Rows.{word_width}
use Rattle.telegram.proofs.rows.Rows.width.Goals as goal

pub returns : goal.returns
returns c = rw c.args.self.now.table (word_width c.args.k c.requires)
