-- `telegram::todo::moved` meets its contract: a field that steers nothing leads to the next row, one that repeats a group no times past it,
-- one that repeats it into it with one time less to go, and any other to the row that follows.
-- Assumes nothing.
use mathlib.Core.Path.{refl, sym, ◌∙◌}
use native.Mathlib.Omega.{arith}
use Rattle.format.proofs.Rows.{act_small}
use Rattle.states.proofs.Moves.{follows_next, moves_on, moves_past, moves_in}
use Rattle.telegram.proofs.todo.moved.Goals as goal

pub overflow_add-result : goal.overflow_add-result
overflow_add-result c = omega (arith, c.requires.0)

pub returns-in-2 : goal.returns-in-2
returns-in-2 c =
    let e = c.act.ensures in
    let z = c.in-2.is in
    let t = c.args.t in
    let l = c.requires.0 in
    moves_on t c.args.v l _ c.requires.1 (omega arith) (follows_next t.node c.args.v l c.requires.1 (omega arith) (λ h. absurd (omega arith)))

pub jump-requires : goal.jump-requires
jump-requires c = let z = c.in-5.is in let e = c.act.ensures in (c.requires.0, omega arith)

pub returns-then-v-eq0 : goal.returns-then-v-eq0
returns-then-v-eq0 c = rw c.jump.ensures (moves_past c.args.t c.args.v c.requires.0 (sym c.act.ensures ∙ c.in-5.is) c.if-v-eq0.true)

pub overflow_add-result-in-5 : goal.overflow_add-result-in-5
overflow_add-result-in-5 c = omega (arith, c.requires.0)

pub returns-else-v-eq0 : goal.returns-else-v-eq0
returns-else-v-eq0 c = moves_in c.args.t c.args.v c.requires.0 _ (sym c.act.ensures ∙ c.in-5.is) c.if-v-eq0.false refl

pub follow-requires : goal.follow-requires
follow-requires c =
    let e = c.act.ensures in
    let p = c.requires.1 in
    let s = act_small c.args.t.node c.requires.0 in (c.requires.0, omega arith, omega arith)

pub returns-in_default : goal.returns-in_default
returns-in_default c =
    let e = c.act.ensures in
    let s = act_small c.args.t.node c.requires.0 in
    moves_on c.args.t c.args.v c.requires.0 c.follow.result c.requires.1 (omega arith) c.follow.ensures
