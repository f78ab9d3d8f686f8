-- `telegram::rows::Rows::act` meets its contract: the lowest three bits of a row's word are its act.
-- Assumes nothing.
use Rattle.format.proofs.Rows.{word_act}
use Rattle.telegram.proofs.rows.Rows.act.Goals as goal

pub returns : goal.returns
returns c = rw c.args.self.now.table (word_act c.args.k c.requires)
