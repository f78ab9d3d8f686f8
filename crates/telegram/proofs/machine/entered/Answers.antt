-- `telegram::machine::entered` meets its contract: what is to be sent, what is noted and what is tested, one after the other. Assumes nothing.
use native.Mathlib.Omega.{arith}
use Rattle.states.proofs.Stepping.{entered_mark, entered_on, width_in}
use Rattle.format.specs.Table.{field_at}
use Rattle.telegram.proofs.machine.entered.Goals as goal

pub overflow_add-at : goal.overflow_add-at
overflow_add-at c =
    let a = c in
    let w = width_in (field_at a.args.s.todo.node) in
    omega (arith, a.requires.low, c.noted-n.ensures.here, c.width.ensures)

pub settled-requires : goal.settled-requires
settled-requires c =
    let a = c in
    let n = c.noted-n.ensures in
    let first : _ = a.requires.sound.first in
    record {
      tidy = (rw c.in-Some.is at c.advance.ensures).tidy;
      first = omega (arith, a.requires.sound.first, n.here, n.first);
      second = omega (arith, n.second a.requires.sound.second, n.here);
    }

pub returns-in_default : goal.returns-in_default
returns-in_default c = let a = c.args in entered_mark a.s a.v (rw c.in_default.is at c.advance.ensures)

pub returns : goal.returns
returns c =
    let a = c.args in
    let n = c.noted-n in
    entered_on a.s a.v _ n.result _ c.settled.result (rw c.in-Some.is at c.advance.ensures)
    (rw (← c.code.ensures) n.ensures) (omega (arith, n.ensures.here, c.width.ensures)) c.settled.ensures
