-- `telegram::todo::advance` meets its contract: after a field that steers nothing the next row is due, if it is no end. Assumes nothing.
use mathlib.Core.Path.{◌∙◌}
use native.Mathlib.Omega.{arith}
use Rattle.format.proofs.Rows.{next_in}
use Rattle.states.proofs.Advancing.{advances_next}
use Rattle.telegram.proofs.todo.advance.Goals as goal

pub act-requires-2 : goal.act-requires-2
act-requires-2 c =
    let a = c in
    let l = next_in a.args.t.node a.requires.inside (omega arith) in omega arith

pub returns : goal.returns
returns c =
    let a = c in
    advances_next a.args.t a.args.v a.requires (omega arith) (λ e. c.if-act-eq-END.false (c.act-2.ensures ∙ e))
