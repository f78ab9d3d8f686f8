-- `alike::says_same` meets its contract: what refuses a telegram is found before anything is stored. Assumes nothing.
use mathlib.Core.Path.{sym, ◌∙◌}
use native.Mathlib.Omega.{arith}
use Rattle.format.specs.Rules.{paper}
use Rattle.states.specs.Reader.{checked}
use Rattle.format.proofs.Numbers.{answer_is}
use Rattle.states.proofs.Answers.{answer_accepted, answer_refused}
use Rattle.alike.proofs.Pairs.{no_room_for_first, no_room_for_other, first_refused, second_refused}
use Rattle.alike.proofs.says_same.Goals as goal

pub returns-then-x-lt104 : goal.returns-then-x-lt104
returns-then-x-lt104 c =
    let a = c.args in
    rw c.at_once.ensures (no_room_for_first paper a.s.now a.n a.t.now a.m a.x.now a.y.now (omega (arith, c.if-x-lt104.true)))

pub returns-then-y-lt104 : goal.returns-then-y-lt104
returns-then-y-lt104 c =
    let a = c.args in
    rw c.at_once-then-y-lt104.ensures (no_room_for_other paper a.s.now a.n a.t.now a.m a.x.now a.y.now (omega arith) (omega (arith, c.if-y-lt104.true)))

pub returns-in-Err : goal.returns-in-Err
returns-in-Err c =
    let a = c.args in
    first_refused paper a.s.now a.n a.t.now a.m a.x.now a.y.now (omega arith) (omega arith)
    ((answer_refused (checked paper a.s.now a.n) _).0 (sym c.in-Err.is ∙ answer_is _ _ c.check.ensures))

-- before the need that follows: without the check of the second telegram this is what fails
pub compared-requires : goal.compared-requires
compared-requires c =
    let a = c.args in
    let f = (answer_accepted (checked paper a.s.now a.n) _).0 (sym c.in_default.is ∙ answer_is _ _ c.check.ensures) in
    let g = (answer_accepted (checked paper a.t.now a.m) _).0 (sym c.in_default-check.is ∙ answer_is _ _ c.check-2.ensures) in (
      record { entries = f.0; accepts = f.1; room = omega arith },
      record { entries = g.0; accepts = g.1; room = omega arith },
    )

pub returns-in-Err-check : goal.returns-in-Err-check
returns-in-Err-check c =
    let a = c.args in
    second_refused paper a.s.now a.n a.t.now a.m a.x.now a.y.now (omega arith) (omega arith)
    ((answer_accepted (checked paper a.s.now a.n) _).0 (sym c.in_default.is ∙ answer_is _ _ c.check.ensures)).1
    ((answer_refused (checked paper a.t.now a.m) _).0 (sym c.in-Err-check.is ∙ answer_is _ _ c.check-2.ensures))

pub returns : goal.returns
returns c = c.compared.ensures
