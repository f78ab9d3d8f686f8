-- `retelling::user` meets its contract. Assumes nothing.
use mathlib.Core.Path.{◌≡◌, sym, ap, ◌∙◌}
use Prim.Native.Nat.{ℕ, ◌+◌}
use native.Mathlib.Omega.{arith}
use Rattle.told.specs.Metres.{circuits_put, restrictions_put, reverse_put, turnout_put}
use Rattle.told.specs.Decides.{circuits_whole, restrictions_whole, reverse_whole, turnout_whole, user_put}
use Rattle.retelling.proofs.ByNumber.{turns, user_other}
use Rattle.metre_lists.proofs.Reading.{there}
use Rattle.retelling.proofs.user.Goals as goal

pub returns-in-1 : goal.returns-in-1
returns-in-1 c =
    let a = c.args in
    let h = c.requires.1 in
    let n = sym (c.behind.ensures ∙ there a.p.now.s.now a.p.now.x (omega arith) a.p.now.within.2 23 9 (omega arith)) ∙ c.in-1.is in
    (let z : a.p.now.x + 49 + 15 ≡ a.p.now.x + 64 = omega arith in rw z at c.led.ensures) ∙ turns a.p.now.s.now (a.p.now.x + 47) (circuits_whole a.p.now.s.now a.p.now.x) (circuits_put a.p.now.s.now a.p.now.x) a.out.now a.k h.0 h.1 ∙ rw n

pub returns-in-2 : goal.returns-in-2
returns-in-2 c =
    let a = c.args in
    let h = c.requires.1 in
    let n = sym (c.behind.ensures ∙ there a.p.now.s.now a.p.now.x (omega arith) a.p.now.within.2 23 9 (omega arith)) ∙ c.in-2.is in
    (let z : a.p.now.x + 49 + 15 ≡ a.p.now.x + 64 = omega arith in rw z at c.led-in-2.ensures) ∙ turns a.p.now.s.now (a.p.now.x + 47) (restrictions_whole a.p.now.s.now a.p.now.x) (restrictions_put a.p.now.s.now a.p.now.x) a.out.now a.k h.0 h.1 ∙ rw n

pub returns-in-3 : goal.returns-in-3
returns-in-3 c =
    let a = c.args in
    let h = c.requires.1 in
    let n = sym (c.behind.ensures ∙ there a.p.now.s.now a.p.now.x (omega arith) a.p.now.within.2 23 9 (omega arith)) ∙ c.in-3.is in
    (let z : a.p.now.x + 49 + 15 ≡ a.p.now.x + 64 = omega arith in rw z at c.two.ensures) ∙ turns a.p.now.s.now (a.p.now.x + 47) (reverse_whole a.p.now.s.now a.p.now.x) (reverse_put a.p.now.s.now a.p.now.x) a.out.now a.k h.0 h.1 ∙ rw n

pub returns-in-4 : goal.returns-in-4
returns-in-4 c =
    let a = c.args in
    let h = c.requires.1 in
    let n = sym (c.behind.ensures ∙ there a.p.now.s.now a.p.now.x (omega arith) a.p.now.within.2 23 9 (omega arith)) ∙ c.in-4.is in
    c.one.ensures ∙ turns a.p.now.s.now (a.p.now.x + 47) (turnout_whole a.p.now.s.now a.p.now.x) (turnout_put a.p.now.s.now a.p.now.x) a.out.now a.k h.0 h.1 ∙ rw n

pub returns-in_default : goal.returns-in_default
returns-in_default c =
    let a = c.args in
    user_other a.p.now.s.now a.p.now.x a.out.now c.behind.result c.in_default.in_default-own.rest
    ∙ ap (λ (u : ℕ). user_put a.p.now.s.now a.p.now.x u a.out.now) (c.behind.ensures ∙ there a.p.now.s.now a.p.now.x (omega arith) a.p.now.within.2 23 9 (omega arith))
