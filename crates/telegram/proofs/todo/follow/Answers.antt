-- `telegram::todo::follow` meets its contract: a field that steers and is 1 is followed by the next row, any other by row jump.
-- Assumes nothing.
use native.Mathlib.Omega.{arith}
use Rattle.states.proofs.Moves.{follows_next, follows_jump}
use Rattle.telegram.proofs.todo.follow.Goals as goal

pub overflow_add-result : goal.overflow_add-result
overflow_add-result c = omega (arith, c.requires.0)

pub returns-then-v-eq1 : goal.returns-then-v-eq1
returns-then-v-eq1 c =
    let a = c in
    follows_next a.args.k a.args.v a.requires.0 (omega (arith, a.requires.1)) a.requires.2 (λ h. c.if-v-eq1.true)

pub jump-requires : goal.jump-requires
jump-requires c = (c.requires.0, c.requires.1)

pub returns : goal.returns
returns c = rw c.jump.ensures (follows_jump c.args.k c.args.v c.requires.0 c.requires.1 c.requires.2 c.if-v-eq1.false)
