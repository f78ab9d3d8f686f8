-- `telegram::rows::Rows::low` meets its contract: the rest of a row tells the low end of its field's range.
-- Assumes nothing.
use mathlib.Core.Path.{ap, ◌∙◌}
use Rattle.format.specs.Table.{low_by}
use Rattle.format.proofs.Rests.{rest_low}
use Rattle.telegram.proofs.rows.Rows.low.Goals as goal

pub returns : goal.returns
returns c = c.low.ensures ∙ ap low_by c.rest.ensures ∙ rest_low c.args.k c.requires
