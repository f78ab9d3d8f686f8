-- `line_text::refuse` meets its contract: five pieces, one behind the other. Assumes nothing.
use native.Mathlib.Omega.{arith}
use Rattle.line_text.proofs.Refusals.{refusal_roomless, refusal_put}
use Rattle.line_text.proofs.refuse.Goals as goal

pub returns-then-out-lt64 : goal.returns-then-out-lt64
returns-then-out-lt64 c = refusal_roomless c.args.reply _ (omega arith)

pub returns : goal.returns
returns c =
    refusal_put {before = c.args.out.now} c.args.reply c.number.result c.value.result (omega arith) c.number.ensures c.value.ensures
    c.append-word.ensures
    c.append_decimal-number.ensures
    c.append-space.ensures
    c.append_decimal-place.ensures
    c.append.ensures
