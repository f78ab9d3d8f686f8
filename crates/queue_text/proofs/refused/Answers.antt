-- `queue_text::refused` meets its contract: its pieces join one behind the other. Assumes nothing.
use mathlib.Core.Path.{ap}
use Rattle.pieces.specs.Numbers.{decimal}
use Rattle.queue_text.specs.Texts.{refusal_text}
use Rattle.queue.proofs.Joining.{joins_then, joins_as}
use Rattle.queue_text.proofs.refused.Goals as goal

pub returns : goal.returns
unfolding refusal_text
returns c =
    joins_then
    (joins_then (joins_then (joins_then c.say-a.ensures (joins_as (ap decimal c.number.ensures) c.number-b.ensures)) c.put-c.ensures) c.number-d.ensures)
    c.put.ensures
