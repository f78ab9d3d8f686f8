-- `answers::respond` meets its contract: the text of the line's own answer. Assumes nothing.
use mathlib.Core.Path.{ap}
use lib.ListN.{length}
use Rattle.queue.proofs.Joining.{joins_as}
use Rattle.answers.specs.Text.{text_of}
use Rattle.answers.proofs.respond.Goals as goal

pub returns : goal.returns
returns c = joins_as (ap (text_of (length c.args.line.now)) c.answer.ensures) c.tell.ensures
