-- `table::fields` meets its contract: the checker computes the numbers of the fields of the rows that the items give. Assumes
-- nothing.
use mathlib.Core.Path.{refl}
use Rattle.format.specs.Table.{field_numbers}
use Rattle.table.proofs.numbers.fields.Goals as goal

pub returns : goal.returns
unfolding field_numbers
returns c = refl
