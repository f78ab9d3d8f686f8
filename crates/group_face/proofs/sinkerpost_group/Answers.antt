-- `group_face::sinkerpost_group` meets its contract. Assumes nothing.
use mathlib.Core.Path.{ap, ◌∙◌}
use Rattle.group_face.specs.GroupCodes.{group_code}
use Rattle.group_face.proofs.sinkerpost_group.Goals as goal

pub returns : goal.returns
returns c = record { answers = c.code.ensures ∙ ap group_code c.message.ensures.answers; pigs_then = c.message.ensures.pigs_then; numbers_then = c.message.ensures.numbers_then }
