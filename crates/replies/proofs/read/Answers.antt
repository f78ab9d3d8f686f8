-- `replies::read` meets its contract: the values in hand are the telegram's, or the refusal is its. Assumes nothing.
use mathlib.Core.Path.{refl, sym}
use lib.Seq.{length-take-le}
use Rattle.queue.proofs.Joining.{joins_as}
use Rattle.replies.proofs.Telegrams.{read_within, read_listed, read_refused}
use Rattle.replies.proofs.read.Goals as goal

pub slice_bounds-run-end : goal.slice_bounds-run-end
slice_bounds-run-end c = read_within c.args.s.now c.args.n _ _ _ refl c.read.ensures _ c.in-Ok.is

pub slice_bounds-listed-end : goal.slice_bounds-listed-end
slice_bounds-listed-end c =
    sym (length-take-le _ _ ((read_within c.args.s.now c.args.n _ _ _ refl c.read.ensures _ c.in-Ok.is)))

pub returns-in-Ok : goal.returns-in-Ok
returns-in-Ok c = joins_as (read_listed c.args.s.now c.args.n _ _ _ refl c.read.ensures _ c.in-Ok.is) c.listed.ensures

pub returns-in-Err : goal.returns-in-Err
returns-in-Err c = joins_as (read_refused c.args.s.now c.args.n _ _ _ refl c.read.ensures _ c.in-Err.is) c.refused.ensures
