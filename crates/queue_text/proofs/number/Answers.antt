-- `queue_text::number` meets its contract: the digits are put by themselves before they join. Assumes nothing.
use mathlib.Core.Path.{refl, sym}
use lib.Seq.{length-take-le}
use Rattle.queue.proofs.Joining.{joins_as}
use Rattle.queue_text.proofs.Digits.{digits_within, digits_are}
use Rattle.queue_text.proofs.number.Goals as goal

pub slice_bounds-d-end : goal.slice_bounds-d-end
slice_bounds-d-end c = digits_within _ _ c.args.v c.append_decimal-k.result refl c.append_decimal-k.ensures

pub slice_bounds-say-end : goal.slice_bounds-say-end
slice_bounds-say-end c =
    sym (length-take-le _ _ ((digits_within _ _ c.args.v c.append_decimal-k.result refl c.append_decimal-k.ensures)))

pub returns : goal.returns
returns c = joins_as (digits_are _ _ c.args.v c.append_decimal-k.result refl c.append_decimal-k.ensures) c.say.ensures
