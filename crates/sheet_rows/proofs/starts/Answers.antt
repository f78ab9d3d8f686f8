-- `sheet_rows::starts` meets its contract: the checker computes them from the table of fields. Assumes nothing.
use mathlib.Core.Path.{refl}
use Rattle.sheet.specs.Rows.{starts}
use Rattle.sheet_rows.proofs.starts.Goals as goal

pub returns : goal.returns
unfolding starts
returns c = refl
