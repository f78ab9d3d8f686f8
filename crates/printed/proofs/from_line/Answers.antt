-- `printed::from_line` meets its contract: room, one law for each reply. Assumes nothing.
use mathlib.Core.Path.{sym}
use native.Mathlib.Omega.{arith}
use lib.Seq.{length-take-le}
use borrow.Author.Rules.{rules}
use Rattle.line_text.proofs.Lines.{line_few}
use Rattle.line_text.proofs.Refusals.{refusal_there}
use Rattle.printed.proofs.Texts.{out_roomless, out_put, out_done, out_failed}
use Rattle.printed.proofs.from_line.Goals as goal

pub returns-then-out-lt65536 : goal.returns-then-out-lt65536
returns-then-out-lt65536 c = out_roomless c.args.input.now _ (omega arith)

pub slice_bounds-exported-end : goal.slice_bounds-exported-end
slice_bounds-exported-end c =
    let input = c.args.input.now in
    sym (length-take-le c.line_length-n.result input (omega (arith, line_few input, c.line_length-n.ensures)))

pub returns-in-Ok : goal.returns-in-Ok
returns-in-Ok c =
    out_put c.args.input.now (omega arith)
    (out_done c.args.input.now _ _ c.line_length-n.result c.exported-reply.result c.line_length-n.ensures c.exported-reply.ensures.0 c.exported-reply.ensures.1
    _ c.in-Ok.is)

pub returns-in-Err : goal.returns-in-Err
returns-in-Err c =
    out_put c.args.input.now (omega arith)
    (out_failed c.args.input.now _ _ c.line_length-n.result c.exported-reply.result c.line_length-n.ensures c.exported-reply.ensures.0 c.exported-reply.ensures.1
    _ _ _ c.in-Err.is (refusal_there _ c.refuse.ensures (search rules)))
