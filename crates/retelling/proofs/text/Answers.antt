-- `retelling::text` meets its contract. Assumes nothing.
use mathlib.Core.Bool.{Bool, true, false, cond, ◌&&◌}
use mathlib.Core.List.{List}
use mathlib.Core.Path.{◌≡◌, refl, sym, ap, ◌∙◌}
use Prim.Native.Nat.{ℕ, ◌+◌, ◌≤◌}
use native.Mathlib.Omega.{arith}
use lib.ListN.{length}
use Rattle.distance.specs.Distance.{number_of}
use Rattle.told.specs.Metres.{number_in, in_metres, text_in_metres, metres_said}
use Rattle.told.specs.Decides.{whole_in, text_whole}
use lib.Dec.{eqb}
use Rattle.retelling.proofs.ByNumber.{distance_is, put_is, stays, tells, first_false, second_false, both_true}
use Rattle.metre_lists.proofs.Reading.{front, then_picked, else_picked}
use Rattle.retelling.proofs.text.Goals.{then-behind-eq1, else-behind-eq1}
use Rattle.retelling.proofs.text.Goals as goal

past : (x : ℕ) (c : Bool) → cond c (x + 58) (x + 50) ≡ x + cond c 58 50
past x true = refl
past x false = refl

pub returns-then-not-distance_whole : goal.returns-then-not-distance_whole
returns-then-not-distance_whole c =
    let a = c.args in
    let long : 8 ≤ length a.p.now.s.now = omega arith in
    let e = a.p.now.x + cond (eqb (number_in a.p.now.s.now 3 (a.p.now.x + 47)) 1) 58 50 in
    stays (a.p.now.x + 23) ((whole_in a.p.now.s.now (number_of a.k) 15 (a.p.now.x + 28)) && text_whole a.p.now.s.now (number_of a.k) e) (λ (o : List ℕ). text_in_metres a.p.now.s.now (number_of a.k) e (in_metres a.p.now.s.now (number_of a.k) 15 (a.p.now.x + 28) o)) a.out.now (first_false (whole_in a.p.now.s.now (number_of a.k) 15 (a.p.now.x + 28)) (text_whole a.p.now.s.now (number_of a.k) e) (sym (distance_is a.p.now.s.now long c.distance_whole.ensures) ∙ c.if-not-distance_whole.true))

pub returns-then-not-length_whole : goal.returns-then-not-length_whole
returns-then-not-length_whole c =
    let a = c.args in
    let long : 8 ≤ length a.p.now.s.now = omega arith in
    let b = c.behind.ensures ∙ front a.p.now.s.now (a.p.now.x + 47) long c.look.ensures 3 (omega arith) in
    let v = number_in a.p.now.s.now 3 (a.p.now.x + 47) in
    let d : c.if-behind-eq1.d ≡ a.p.now.x + cond (eqb v 1) 58 50 =
    elim c.if-behind-eq1.branch [ then-behind-eq1 w ↦ then_picked v 1 (a.p.now.x + 58) (a.p.now.x + 50) b w.if-behind-eq1.true w.d-is | else-behind-eq1 w ↦ else_picked v 1 (a.p.now.x + 58) (a.p.now.x + 50) b w.if-behind-eq1.false w.d-is ]
    ∙ past a.p.now.x (eqb v 1) in
    let e = a.p.now.x + cond (eqb (number_in a.p.now.s.now 3 (a.p.now.x + 47)) 1) 58 50 in
    stays (a.p.now.x + 23) ((whole_in a.p.now.s.now (number_of a.k) 15 (a.p.now.x + 28)) && text_whole a.p.now.s.now (number_of a.k) e) (λ (o : List ℕ). text_in_metres a.p.now.s.now (number_of a.k) e (in_metres a.p.now.s.now (number_of a.k) 15 (a.p.now.x + 28) o)) a.out.now
    (second_false (whole_in a.p.now.s.now (number_of a.k) 15 (a.p.now.x + 28)) (text_whole a.p.now.s.now (number_of a.k) e) (sym (distance_is a.p.now.s.now long c.distance_whole.ensures) ∙ c.if-not-distance_whole.false)
    (sym (rw d at c.length_whole.ensures) ∙ c.if-not-length_whole.true))

pub returns : goal.returns
returns c =
    let a = c.args in
    let long : 8 ≤ length a.p.now.s.now = omega arith in
    let b = c.behind.ensures ∙ front a.p.now.s.now (a.p.now.x + 47) long c.look.ensures 3 (omega arith) in
    let v = number_in a.p.now.s.now 3 (a.p.now.x + 47) in
    let d : c.if-behind-eq1.d ≡ a.p.now.x + cond (eqb v 1) 58 50 =
    elim c.if-behind-eq1.branch [ then-behind-eq1 w ↦ then_picked v 1 (a.p.now.x + 58) (a.p.now.x + 50) b w.if-behind-eq1.true w.d-is | else-behind-eq1 w ↦ else_picked v 1 (a.p.now.x + 58) (a.p.now.x + 50) b w.if-behind-eq1.false w.d-is ]
    ∙ past a.p.now.x (eqb v 1) in
    let e = a.p.now.x + cond (eqb (number_in a.p.now.s.now 3 (a.p.now.x + 47)) 1) 58 50 in
    let one = put_is a.p.now.s.now long a.out.now (omega arith) c.distance_put.ensures in
    c.said.ensures
    ∙ ap (metres_said (a.p.now.x + 23)) (rw d at c.length_put.ensures ∙ ap (text_in_metres a.p.now.s.now (number_of a.k) e) one)
    ∙ tells (a.p.now.x + 23) ((whole_in a.p.now.s.now (number_of a.k) 15 (a.p.now.x + 28)) && text_whole a.p.now.s.now (number_of a.k) e) (λ (o : List ℕ). text_in_metres a.p.now.s.now (number_of a.k) e (in_metres a.p.now.s.now (number_of a.k) 15 (a.p.now.x + 28) o)) a.out.now
    (both_true (whole_in a.p.now.s.now (number_of a.k) 15 (a.p.now.x + 28)) (text_whole a.p.now.s.now (number_of a.k) e) (sym (distance_is a.p.now.s.now long c.distance_whole.ensures) ∙ c.if-not-distance_whole.false)
    (sym (rw d at c.length_whole.ensures) ∙ c.if-not-length_whole.false))
