-- `telegram::rows::Rows::code` meets its contract: the act and the rest of a row tell the code of its field's sense.
-- Assumes nothing.
use mathlib.Core.Path.{ap₂, ◌∙◌}
use Rattle.format.specs.Table.{code_by}
use Rattle.format.proofs.Rests.{rest_code}
use Rattle.telegram.proofs.rows.Rows.code.Goals as goal

pub returns : goal.returns
returns c = c.code.ensures ∙ ap₂ code_by c.act.ensures c.rest.ensures ∙ rest_code c.args.k c.requires
