-- `spans::user` meets its contract: one law for each arm. Assumes nothing.
use mathlib.Core.Path.{sym, ap, ◌∙◌}
use Prim.Native.Nat.{◌*◌, ◌/◌, ◌%◌, ◌^◌}
use native.Mathlib.Omega.{arith}
use Rattle.spans.specs.Spans.{user_at}
use Rattle.spans.proofs.ByName.{user_1, user_2, user_3, user_4, user_5, user_other}
use Rattle.spans.proofs.Tests.{zero_counted, zero_sized}
use Rattle.spans.proofs.user.Goals as goal

pub returns-in-1 : goal.returns-in-1
returns-in-1 c =
    let a = c.args in
    c.scaled.ensures
    ∙ rw (c.behind-q.ensures, c.circuits.ensures, zero_counted _) (user_1 a.s.now a.n a.end a.start.at a.long a.w (a.w * 2 ^ 23 % 2 ^ 64 / 2 ^ 55) (sym c.behind.ensures ∙ c.in-1.is))

pub returns-in-2 : goal.returns-in-2
returns-in-2 c =
    let a = c.args in
    c.scaled-in-2.ensures
    ∙ rw (c.behind-q.ensures, c.restricted.ensures, zero_counted _) (user_2 a.s.now a.n a.end a.start.at a.long a.w (a.w * 2 ^ 23 % 2 ^ 64 / 2 ^ 55) (sym c.behind.ensures ∙ c.in-2.is))

pub returns-in-3 : goal.returns-in-3
returns-in-3 c =
    let a = c.args in
    c.scaled-in-3.ensures
    ∙ rw (c.behind-q.ensures, c.sized.ensures, zero_sized 9 (omega arith) a.long 79) (user_3 a.s.now a.n a.end a.start.at a.long a.w (a.w * 2 ^ 23 % 2 ^ 64 / 2 ^ 55) (sym c.behind.ensures ∙ c.in-3.is))

pub returns-in-4 : goal.returns-in-4
returns-in-4 c =
    let a = c.args in
    c.scaled-in-4.ensures
    ∙ rw (c.behind-q.ensures, c.sized-in-4.ensures, zero_sized 9 (omega arith) a.long 71) (user_4 a.s.now a.n a.end a.start.at a.long a.w (a.w * 2 ^ 23 % 2 ^ 64 / 2 ^ 55) (sym c.behind.ensures ∙ c.in-4.is))

pub returns-in-5 : goal.returns-in-5
returns-in-5 c =
    let a = c.args in
    c.plain.ensures
    ∙ rw (c.stopping.ensures, zero_counted _, c.behind-in-5.ensures) (user_5 a.s.now a.n a.end a.start.at a.long a.w (a.w * 2 ^ 23 % 2 ^ 64 / 2 ^ 55) (sym c.behind.ensures ∙ c.in-5.is))

pub returns-in_default : goal.returns-in_default
returns-in_default c =
    let a = c.args in
    c.plain-in_default.ensures ∙ user_other a.s.now a.n a.end a.start.at a.long a.w c.behind.result c.in_default.in_default-own.rest
    ∙ ap (user_at a.s.now a.n a.end a.start.at a.long a.w) c.behind.ensures
