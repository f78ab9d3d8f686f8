-- `table::rows` meets its contract: the checker computes the words of the rows that the items give. Assumes nothing.
use mathlib.Core.Path.{refl}
use Rattle.format.specs.Table.{words}
use Rattle.table.proofs.rows.Goals as goal

pub returns : goal.returns
unfolding words
returns c = refl
