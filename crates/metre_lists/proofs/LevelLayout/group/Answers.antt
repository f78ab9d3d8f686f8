-- A group of ETCS-41 is gone over as its layout says. Assumes nothing.
use mathlib.Core.Bool.{cond}
use mathlib.Core.Path.{◌≡◌, sym, ap, ◌∙◌}
use Prim.Native.Nat.{ℕ, ◌+◌, ◌≤◌}
use native.Mathlib.Omega.{arith}
use lib.Dec.{eqb}
use lib.ListN.{length}
use Rattle.std.specs.Prelude.{Some}
use Rattle.told.specs.Metres.{number_in}
use Rattle.metre_lists.proofs.Reading.{front, moved, some_bits, no_bits, plus, then_picked, else_picked, picked_low}
use Rattle.metre_lists.proofs.LevelLayout.group.Goals.{then-behind-eq1, else-behind-eq1}
use Rattle.metre_lists.proofs.LevelLayout.group.Goals as goal

pub returns-then-not-told-clause-told : goal.returns-then-not-told-clause-told
returns-then-not-told-clause-told c =
    let a = c.args in
    let long : 8 ≤ length a.s.now = omega arith in
    let v = number_in a.s.now 3 a.x in
    let b = c.behind.ensures ∙ front a.s.now a.x long c.look-w.ensures 3 (omega arith) in
    let d : c.if-behind-eq1.d ≡ cond (eqb v 1) 11 3 =
    elim c.if-behind-eq1.branch [ then-behind-eq1 w ↦ then_picked v 1 11 3 b w.if-behind-eq1.true w.d-is | else-behind-eq1 w ↦ else_picked v 1 11 3 b w.if-behind-eq1.false w.d-is ] in
    let e = moved a.s.now a.x long c.look-w.ensures c.if-behind-eq1.d 15 (omega (arith, d, picked_low (eqb v 1) 11 3)) in
    no_bits _ _ (sym (rw (e, d) at c.told.ensures.0) ∙ c.if-not-told.true)

pub returns-clause-told : goal.returns-clause-told
returns-clause-told c =
    let a = c.args in
    let long : 8 ≤ length a.s.now = omega arith in
    let v = number_in a.s.now 3 a.x in
    let b = c.behind.ensures ∙ front a.s.now a.x long c.look-w.ensures 3 (omega arith) in
    let d : c.if-behind-eq1.d ≡ cond (eqb v 1) 11 3 =
    elim c.if-behind-eq1.branch [ then-behind-eq1 w ↦ then_picked v 1 11 3 b w.if-behind-eq1.true w.d-is | else-behind-eq1 w ↦ else_picked v 1 11 3 b w.if-behind-eq1.false w.d-is ] in
    let e = moved a.s.now a.x long c.look-w.ensures c.if-behind-eq1.d 15 (omega (arith, d, picked_low (eqb v 1) 11 3)) in
    ap (λ (m : ℕ). Some (m + 15)) d ∙ ap (λ (m : ℕ). Some m) (plus (eqb v 1) 15 11 3) ∙ some_bits _ _ (sym (rw (e, d) at c.told.ensures.0) ∙ c.if-not-told.false)

pub returns-clause-after : goal.returns-clause-after
returns-clause-after c =
    let a = c.args in
    let long : 8 ≤ length a.s.now = omega arith in
    let v = number_in a.s.now 3 a.x in
    let b = c.behind.ensures ∙ front a.s.now a.x long c.look-w.ensures 3 (omega arith) in
    let d : c.if-behind-eq1.d ≡ cond (eqb v 1) 11 3 =
    elim c.if-behind-eq1.branch [ then-behind-eq1 w ↦ then_picked v 1 11 3 b w.if-behind-eq1.true w.d-is | else-behind-eq1 w ↦ else_picked v 1 11 3 b w.if-behind-eq1.false w.d-is ] in
    let e = moved a.s.now a.x long c.look-w.ensures c.if-behind-eq1.d 15 (omega (arith, d, picked_low (eqb v 1) 11 3)) in
    rw (e, d) at c.told.ensures.1
