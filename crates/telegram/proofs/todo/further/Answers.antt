-- `telegram::todo::further` meets its contract: an identifier leads to its packet's first row, and a field is passed with as many groups'
-- ends as can stand together.
-- Assumes nothing.
use mathlib.Core.Path.{sym, ◌∙◌}
use native.Mathlib.Omega.{arith}
use Rattle.states.proofs.Advancing.{advances_over, advances_to, advances_inside, advances_on}
use Rattle.telegram.proofs.todo.further.Goals as goal

pub returns-then-row-eq0 : goal.returns-then-row-eq0
returns-then-row-eq0 c =
    let a = c.args in
    advances_over a.t a.v c.requires c.etcs-row.result c.etcs-row.ensures (sym c.act.ensures ∙ c.in-0.is) c.if-row-eq0.true

pub returns-else-row-eq0 : goal.returns-else-row-eq0
returns-else-row-eq0 c =
    let a = c.args in
    rw c.at.ensures (advances_to a.t a.v c.requires c.etcs-row.result c.etcs-row.ensures (sym c.act.ensures ∙ c.in-0.is) c.if-row-eq0.false)

pub returns-in-1 : goal.returns-in-1
returns-in-1 c =
    let a = c.args in
    rw c.at-in-1.ensures (advances_inside a.t a.v c.requires c.ctcs.result c.ctcs.ensures (sym c.act.ensures ∙ c.in-1.is))

pub returns-in_default : goal.returns-in_default
returns-in_default c =
    let a = c.args in
    let e = c.act.ensures in
    advances_on a.t a.v c.requires c.moved.result c.turned.result c.turned-in_default.result (omega arith) c.moved.ensures c.turned.ensures c.turned-in_default.ensures
