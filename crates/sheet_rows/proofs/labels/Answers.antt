-- `sheet_rows::labels` meets its contract: the checker computes them from the table of fields. Assumes nothing.
use mathlib.Core.Path.{refl}
use Rattle.sheet.specs.Rows.{labels}
use Rattle.sheet_rows.proofs.labels.Goals as goal

pub returns : goal.returns
unfolding labels
returns c = refl
