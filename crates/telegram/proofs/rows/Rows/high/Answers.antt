-- `telegram::rows::Rows::high` meets its contract: the rest of a row tells the high end of its field's range.
-- Assumes nothing.
use mathlib.Core.Path.{ap, ◌∙◌}
use Rattle.format.specs.Table.{high_by}
use Rattle.format.proofs.Rests.{rest_high}
use Rattle.telegram.proofs.rows.Rows.high.Goals as goal

pub returns : goal.returns
returns c = c.high.ensures ∙ ap high_by c.rest.ensures ∙ rest_high c.args.k c.requires
