-- `groups::answered` meets its contract: what is kept lies within the line. Assumes nothing.
use mathlib.Core.Path.{sym}
use lib.Seq.{length-take-le}
use Rattle.queue.proofs.Joining.{joins_nothing, joins_as}
use Rattle.group_answers.specs.Lines.{answer_to}
use Rattle.line_by_line.proofs.Whole.{reply_whole, reply_none}
use Rattle.groups.proofs.answered.Goals as goal

pub slice_bounds-respond-end : goal.slice_bounds-respond-end
slice_bounds-respond-end c = sym (length-take-le c.args.input.kept c.args.line.now c.requires)

pub returns-then-input : goal.returns-then-input
returns-then-input c =
    let s = c in
    joins_as (reply_whole answer_to s.args.line.now s.args.input c.if-input.true) c.respond.ensures

pub returns : goal.returns
returns c =
    let s = c in
    joins_as (reply_none answer_to s.args.line.now s.args.input c.if-input.false) (joins_nothing _ _)
