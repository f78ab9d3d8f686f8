-- `noting::noted` meets its contract: five codes keep something of the value, and no other does. Assumes nothing.
use native.Mathlib.Omega.{arith}
use Rattle.states.proofs.Noting.{packet_opens, user_opens, pig_any, nothing}
use Rattle.noting.proofs.noted.Goals as goal

pub returns-in-7 : goal.returns-in-7
returns-in-7 c = let a = c.args in rw c.in-7.is (packet_opens a.s a.v)

pub returns-in-8 : goal.returns-in-8
returns-in-8 c = let a = c.args in rw c.in-8.is (user_opens a.s a.v)

pub returns-in-4 : goal.returns-in-4
returns-in-4 c = let a = c.args in rw c.in-4.is (pig_any a.s a.v)

pub returns-in_default : goal.returns-in_default
returns-in_default c =
    let a = c.args in
    nothing a.s a.v a.c (omega arith) (omega arith) (omega arith) (omega arith) (omega arith)
