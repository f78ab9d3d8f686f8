-- A group of ETCS-79 is gone over as its layout says. Assumes nothing.
use mathlib.Core.Bool.{cond}
use mathlib.Core.Path.{◌≡◌, sym, ap, ◌∙◌}
use Prim.Native.Nat.{ℕ, ◌+◌, ◌≤◌}
use native.Mathlib.Omega.{arith}
use lib.Dec.{eqb}
use lib.ListN.{length}
use Rattle.std.specs.Prelude.{Some}
use Rattle.distance.specs.Distance.{number_of}
use Rattle.told.specs.Metres.{number_in, in_metres}
use Rattle.told.specs.Decides.{whole_in}
use Rattle.metre_lists.proofs.Reading.{front, moved, some_bits, no_bits, first_fails, then_second, both_put, plus, then_picked, else_picked}
use Rattle.metre_lists.proofs.PlaceLayout.group.Goals.{then-behind-eq1, else-behind-eq1}
use Rattle.metre_lists.proofs.PlaceLayout.group.Goals as goal

pub returns-then-not-told-clause-told : goal.returns-then-not-told-clause-told
returns-then-not-told-clause-told c =
    let a = c.args in
    let long : 8 ≤ length a.s.now = omega arith in
    let v = number_in a.s.now 1 a.x in
    let b = c.behind.ensures ∙ front a.s.now a.x long c.look.ensures 1 (omega arith) in
    let d : c.if-behind-eq1.d ≡ cond (eqb v 1) 25 15 =
    elim c.if-behind-eq1.branch [ then-behind-eq1 w ↦ then_picked v 1 25 15 b w.if-behind-eq1.true w.d-is | else-behind-eq1 w ↦ else_picked v 1 25 15 b w.if-behind-eq1.false w.d-is ] in
    let z = a.x + cond (eqb v 1) 25 15 in
    let e = front a.s.now (a.x + c.if-behind-eq1.d) long c.look-w.ensures 15 (omega arith) in
    no_bits _ _ (first_fails a.puts (whole_in a.s.now (number_of a.k) 15 z) (whole_in a.s.now (number_of a.k) 20 (z + 16)) (sym (rw (e, d) at c.told.ensures.0) ∙ c.if-not-told.true))

pub returns-then-not-told-2-clause-told : goal.returns-then-not-told-2-clause-told
returns-then-not-told-2-clause-told c =
    let a = c.args in
    let long : 8 ≤ length a.s.now = omega arith in
    let v = number_in a.s.now 1 a.x in
    let b = c.behind.ensures ∙ front a.s.now a.x long c.look.ensures 1 (omega arith) in
    let d : c.if-behind-eq1.d ≡ cond (eqb v 1) 25 15 =
    elim c.if-behind-eq1.branch [ then-behind-eq1 w ↦ then_picked v 1 25 15 b w.if-behind-eq1.true w.d-is | else-behind-eq1 w ↦ else_picked v 1 25 15 b w.if-behind-eq1.false w.d-is ] in
    let z = a.x + cond (eqb v 1) 25 15 in
    let e = front a.s.now (a.x + c.if-behind-eq1.d) long c.look-w.ensures 15 (omega arith) in
    let f = moved a.s.now (a.x + c.if-behind-eq1.d) long c.look-w.ensures 16 20 (omega arith) in
    let h = sym (rw (e, d) at c.told.ensures.0) ∙ c.if-not-told.false in
    let i = sym (rw (f, d) at c.told-2.ensures.0) ∙ c.if-not-told-2.true in
    no_bits _ _ (then_second a.puts (whole_in a.s.now (number_of a.k) 15 z) (whole_in a.s.now (number_of a.k) 20 (z + 16)) h ∙ i)

pub returns-clause-told : goal.returns-clause-told
returns-clause-told c =
    let a = c.args in
    let long : 8 ≤ length a.s.now = omega arith in
    let v = number_in a.s.now 1 a.x in
    let b = c.behind.ensures ∙ front a.s.now a.x long c.look.ensures 1 (omega arith) in
    let d : c.if-behind-eq1.d ≡ cond (eqb v 1) 25 15 =
    elim c.if-behind-eq1.branch [ then-behind-eq1 w ↦ then_picked v 1 25 15 b w.if-behind-eq1.true w.d-is | else-behind-eq1 w ↦ else_picked v 1 25 15 b w.if-behind-eq1.false w.d-is ] in
    let z = a.x + cond (eqb v 1) 25 15 in
    let e = front a.s.now (a.x + c.if-behind-eq1.d) long c.look-w.ensures 15 (omega arith) in
    let f = moved a.s.now (a.x + c.if-behind-eq1.d) long c.look-w.ensures 16 20 (omega arith) in
    let h = sym (rw (e, d) at c.told.ensures.0) ∙ c.if-not-told.false in
    let i = sym (rw (f, d) at c.told-2.ensures.0) ∙ c.if-not-told-2.false in
    ap (λ (m : ℕ). Some (m + 36)) d ∙ ap (λ (m : ℕ). Some m) (plus (eqb v 1) 36 25 15) ∙ some_bits _ _ (then_second a.puts (whole_in a.s.now (number_of a.k) 15 z) (whole_in a.s.now (number_of a.k) 20 (z + 16)) h ∙ i)

pub returns-clause-after : goal.returns-clause-after
returns-clause-after c =
    let a = c.args in
    let long : 8 ≤ length a.s.now = omega arith in
    let v = number_in a.s.now 1 a.x in
    let b = c.behind.ensures ∙ front a.s.now a.x long c.look.ensures 1 (omega arith) in
    let d : c.if-behind-eq1.d ≡ cond (eqb v 1) 25 15 =
    elim c.if-behind-eq1.branch [ then-behind-eq1 w ↦ then_picked v 1 25 15 b w.if-behind-eq1.true w.d-is | else-behind-eq1 w ↦ else_picked v 1 25 15 b w.if-behind-eq1.false w.d-is ] in
    let z = a.x + cond (eqb v 1) 25 15 in
    let e = front a.s.now (a.x + c.if-behind-eq1.d) long c.look-w.ensures 15 (omega arith) in
    let f = moved a.s.now (a.x + c.if-behind-eq1.d) long c.look-w.ensures 16 20 (omega arith) in
    both_put a.puts (in_metres a.s.now (number_of a.k) 15 z) (in_metres a.s.now (number_of a.k) 20 (z + 16)) _ _ _ (rw (e, d) at c.told.ensures.1) (rw (f, d) at c.told-2.ensures.1)
