-- `wide_lists::differ` meets its contract: those that are left decide it. Assumes nothing.
use mathlib.Core.Path.{sym, ◌∙◌}
use Prim.Native.Nat.{◌+◌, ◌-◌}
use native.Mathlib.Omega.{arith}
use Rattle.bits.proofs.Fields.{taken}
use Rattle.wide_lists.proofs.Apart.{differ_on, differ_broken, differ_short, differ_end}
use Rattle.wide_lists.proofs.differ.Goals as goal

pub returns-in_default : goal.returns-in_default
returns-in_default c =
    let l = c.loop in
    let a = c.args in
    sym (l.invariant ∙ differ_short a.s.now a.n (a.times - l.counter) (a.times - (l.counter + 1)) l.c.at (omega arith) (sym c.take.ensures ∙ c.in_default.is))

pub returns-then-v-gt2 : goal.returns-then-v-gt2
returns-then-v-gt2 c =
    let l = c.loop in
    let a = c.args in
    sym (l.invariant
    ∙ differ_broken a.s.now a.n (a.times - l.counter) (a.times - (l.counter + 1)) l.c.at (omega arith) _ _ (sym c.take.ensures ∙ c.in-Some.is) (omega arith))

pub overflow_add-c : goal.overflow_add-c
overflow_add-c c =
    let l = c.loop in
    let a = c.args in
    let f = taken a.s.now a.n 4 l.c.at _ _ (sym c.take.ensures ∙ c.in-Some.is) in
    omega (arith, f.within, f.past, c.requires)

pub loop-preserved : goal.loop-preserved
loop-preserved c =
    let l = c.loop in
    let a = c.args in
    l.invariant
    ∙ differ_on a.s.now a.n (a.times - l.counter) (a.times - (l.counter + 1)) l.c.at (omega arith) _ _ (sym c.take.ensures ∙ c.in-Some.is) (omega arith)

pub returns : goal.returns
returns c =
    let l = c.loop in
    let a = c.args in
    sym (l.invariant ∙ differ_end a.s.now a.n (a.times - l.counter) l.c.at (omega arith))
