-- `pieces::begins` meets its contract. Assumes nothing.
use mathlib.Core.Path.{sym, ◌∙◌}
use native.Mathlib.Omega.{arith}
use Rattle.pieces.proofs.Starts.{begins_none, begins_other, begins_more, begins_all}
use Rattle.pieces.proofs.begins.Goals as goal

pub returns-then-text-j : goal.returns-then-text-j
returns-then-text-j c =
    sym (c.loop-c.invariant ∙ begins_none c.args.piece.now c.args.text.now c.loop-c.c-index c.loop-c.j (omega arith) (omega arith))

pub returns-then-c-text : goal.returns-then-c-text
returns-then-c-text c =
    sym (c.loop-c.invariant ∙ begins_other c.args.piece.now c.args.text.now c.loop-c.c-index c.loop-c.j (omega arith) (omega arith) (omega arith))

pub loop-c-preserved : goal.loop-c-preserved
loop-c-preserved c =
    c.loop-c.invariant ∙ begins_more c.args.piece.now c.args.text.now c.loop-c.c-index c.loop-c.j (omega arith) (omega arith) (omega arith)

pub returns : goal.returns
returns c = sym (c.loop-c.invariant ∙ begins_all c.args.piece.now c.args.text.now c.loop-c.c-index c.loop-c.j (omega arith))
