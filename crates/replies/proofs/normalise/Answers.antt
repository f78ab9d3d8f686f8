-- `replies::normalise` meets its contract: the bits in hand are the normal form's. Assumes nothing.
use mathlib.Core.Path.{refl}
use Rattle.queue.proofs.Joining.{joins_as}
use Rattle.replies.proofs.Telegrams.{normal_as}
use Rattle.replies.proofs.normalise.Goals as goal

pub returns : goal.returns
returns c = joins_as (normal_as refl c.args.s.now c.args.n c.normalise-a.ensures) c.sent.ensures
