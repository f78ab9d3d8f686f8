-- A group with one distance is gone over as its layout says. Assumes nothing.
use mathlib.Core.Path.{sym, ap, ◌∙◌}
use Prim.Native.Nat.{ℕ, ◌+◌, ◌*◌}
use native.Mathlib.Omega.{arith}
use Rattle.std.specs.Prelude.{Some}
use Rattle.metre_lists.proofs.Reading.{there, moved, behind_lt, some_bits, no_bits, product}
use Rattle.metre_lists.proofs.RunLayout.group.Goals as goal

pub returns-then-not-told-clause-told : goal.returns-then-not-told-clause-told
returns-then-not-told-clause-told c =
    let a = c.args in
    let e = moved a.s.now a.x (omega arith) c.look-w.ensures a.self.now.at 15 (omega arith) in
    no_bits _ _ (sym (rw e at c.told.ensures.0) ∙ c.if-not-told.true)

pub overflow_mul-result : goal.overflow_mul-result
overflow_mul-result c =
    let g = c.args.self.now in
    omega (arith, product g.step _ c.requires.3.6 (behind_lt c.look-w.result g.flag g.wide (omega arith)) c.requires.3.5)

pub overflow_add-result : goal.overflow_add-result
overflow_add-result c =
    let g = c.args.self.now in
    omega (arith, product g.step _ c.requires.3.6 (behind_lt c.look-w.result g.flag g.wide (omega arith)) c.requires.3.5)

pub returns-clause-told : goal.returns-clause-told
returns-clause-told c =
    let a = c.args in
    let g = a.self.now in
    let e = moved a.s.now a.x (omega arith) c.look-w.ensures g.at 15 (omega arith) in
    let f = there a.s.now a.x (omega arith) c.look-w.ensures g.flag g.wide (omega arith) in
    ap (λ (v : ℕ). Some (g.bits + g.step * v)) f ∙ some_bits _ _ (sym (rw e at c.told.ensures.0) ∙ c.if-not-told.false)

pub returns-clause-after : goal.returns-clause-after
returns-clause-after c =
    let a = c.args in
    let e = moved a.s.now a.x (omega arith) c.look-w.ensures a.self.now.at 15 (omega arith) in
    rw e at c.told.ensures.1

pub returns-clause-low : goal.returns-clause-low
returns-clause-low c =
    let g = c.args.self.now in
    omega (arith, product g.step _ c.requires.3.6 (behind_lt c.look-w.result g.flag g.wide (omega arith)) c.requires.3.5)
