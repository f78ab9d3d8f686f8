-- `telegram::rows::Rows::back` meets its contract: the rest of a group's end says how far back the row lies that repeats the group.
-- Assumes nothing.
use mathlib.Core.Path.{◌∙◌}
use Rattle.format.proofs.Rests.{back_is}
use Rattle.telegram.proofs.rows.Rows.back.Goals as goal

pub rest-requires : goal.rest-requires
rest-requires c = c.requires.0

pub returns : goal.returns
returns c = c.back.ensures ∙ rw c.rest.ensures (back_is c.args.k c.requires.0 c.requires.1)
