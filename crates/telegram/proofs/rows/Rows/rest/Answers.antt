-- `telegram::rows::Rows::rest` meets its contract: the highest six bits of a row's word are its rest.
-- Assumes nothing.
use native.Mathlib.Omega.{arith}
use Rattle.format.proofs.Rests.{rest_small}
use Rattle.format.proofs.Rows.{word_rest}
use Rattle.telegram.proofs.rows.Rows.rest.Goals as goal

pub overflow_cast-result : goal.overflow_cast-result
overflow_cast-result c =
    let a = c in
    let e = word_rest a.args.k a.requires in
    let l = rest_small a.args.k a.requires in rw a.args.self.now.table (omega arith)

pub returns : goal.returns
returns c = rw c.args.self.now.table (word_rest c.args.k c.requires)
