-- `telegram::todo::turned` meets its contract: a group's end jumps to the row that repeats the group, whose next row is the group again and
-- whose jump, which is what follows its last, is the row behind the end.
-- Assumes nothing.
use mathlib.Core.Path.{refl, sym, ap, ◌∙◌}
use native.Mathlib.Numerals.{add-one}
use native.Mathlib.Omega.{arith}
use Rattle.format.specs.Table.{jump}
use Rattle.format.proofs.Rests.{group_out}
use Rattle.format.proofs.Rows.{jump_in}
use Rattle.states.proofs.Moves.{turns_none, turns_out, turns_again}
use Rattle.telegram.proofs.todo.turned.Goals as goal

pub back-u-requires : goal.back-u-requires
back-u-requires c = (c.requires, sym c.act.ensures ∙ c.if-act-ne-END.false)

pub returns-then-u-eq0 : goal.returns-then-u-eq0
returns-then-u-eq0 c = turns_none c.args.t _ c.requires (sym c.act.ensures ∙ c.if-act-ne-END.false) c.back-u.ensures c.if-u-eq0.true

pub overflow_add-result : goal.overflow_add-result
overflow_add-result c = omega (arith, c.requires)

pub returns-then-t-eq0 : goal.returns-then-t-eq0
returns-then-t-eq0 c =
    let e = sym c.act.ensures ∙ c.if-act-ne-END.false in
    let n = c.if-u-eq0.false in
    let u = c.back-u.ensures in
    let g = group_out c.args.t.node c.requires e (omega arith) in
    turns_out c.args.t _ c.requires e u n _ c.if-t-eq0.true (add-one c.args.t.node ∙ sym g ∙ ap jump (sym u))

pub overflow_add-result-2 : goal.overflow_add-result-2
overflow_add-result-2 c = let l = jump_in c.args.t.node c.requires in omega (arith, c.back-u.ensures)

pub overflow_sub-result : goal.overflow_sub-result
overflow_sub-result c = let n = c.if-t-eq0.false in omega arith

pub returns : goal.returns
returns c =
    turns_again c.args.t _ c.requires (sym c.act.ensures ∙ c.if-act-ne-END.false) c.back-u.ensures c.if-u-eq0.false _ c.if-t-eq0.false refl
