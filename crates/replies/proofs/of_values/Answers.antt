-- `replies::of_values` meets its contract: the bits in hand are the telegram's. Assumes nothing.
use mathlib.Core.Path.{refl}
use Rattle.queue.proofs.Joining.{joins_as}
use Rattle.replies.proofs.Telegrams.{written_as}
use Rattle.replies.proofs.of_values.Goals as goal

pub returns : goal.returns
returns c = joins_as (written_as refl c.args.values.now c.write-a.ensures) c.sent.ensures
