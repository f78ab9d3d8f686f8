-- `retelling::Scaled::two` meets its contract. Assumes nothing.
use mathlib.Core.Bool.{◌&&◌}
use mathlib.Core.List.{List}
use mathlib.Core.Path.{sym, ap, ◌∙◌}
use Prim.Native.Nat.{ℕ, ◌+◌, ◌≤◌}
use native.Mathlib.Omega.{arith}
use lib.ListN.{length}
use Rattle.distance.specs.Distance.{number_of}
use Rattle.told.specs.Metres.{in_metres, metres_said}
use Rattle.told.specs.Decides.{whole_in}
use Rattle.retelling.proofs.ByNumber.{distance_is, put_is, stays, tells, first_false, second_false, both_true}
use Rattle.retelling.proofs.Scaled.two.Goals as goal

pub returns-then-not-distance_whole : goal.returns-then-not-distance_whole
returns-then-not-distance_whole c =
    let a = c.args in
    let long : 8 ≤ length a.self.now.s.now = omega arith in
    stays a.self.now.q ((whole_in a.self.now.s.now (number_of a.self.now.k) 15 a.d) && (whole_in a.self.now.s.now (number_of a.self.now.k) 15 (a.d + 15))) (λ (o : List ℕ). in_metres a.self.now.s.now (number_of a.self.now.k) 15 (a.d + 15) (in_metres a.self.now.s.now (number_of a.self.now.k) 15 a.d o)) a.out.now (first_false (whole_in a.self.now.s.now (number_of a.self.now.k) 15 a.d) (whole_in a.self.now.s.now (number_of a.self.now.k) 15 (a.d + 15)) (sym (distance_is a.self.now.s.now long c.distance_whole.ensures) ∙ c.if-not-distance_whole.true))

pub returns-then-not-distance_whole-2 : goal.returns-then-not-distance_whole-2
returns-then-not-distance_whole-2 c =
    let a = c.args in
    let long : 8 ≤ length a.self.now.s.now = omega arith in
    stays a.self.now.q ((whole_in a.self.now.s.now (number_of a.self.now.k) 15 a.d) && (whole_in a.self.now.s.now (number_of a.self.now.k) 15 (a.d + 15))) (λ (o : List ℕ). in_metres a.self.now.s.now (number_of a.self.now.k) 15 (a.d + 15) (in_metres a.self.now.s.now (number_of a.self.now.k) 15 a.d o)) a.out.now
    (second_false (whole_in a.self.now.s.now (number_of a.self.now.k) 15 a.d) (whole_in a.self.now.s.now (number_of a.self.now.k) 15 (a.d + 15)) (sym (distance_is a.self.now.s.now long c.distance_whole.ensures) ∙ c.if-not-distance_whole.false)
    (sym (distance_is a.self.now.s.now long c.distance_whole-2.ensures) ∙ c.if-not-distance_whole-2.true))

pub returns : goal.returns
returns c =
    let a = c.args in
    let long : 8 ≤ length a.self.now.s.now = omega arith in
    let one = put_is a.self.now.s.now long a.out.now (omega arith) c.distance_put.ensures in
    let two = put_is a.self.now.s.now long c.distance_put.new.out (omega (arith, c.out-1.given)) c.distance_put-2.ensures in
    c.said.ensures
    ∙ ap (metres_said a.self.now.q) (two ∙ ap (in_metres a.self.now.s.now (number_of a.self.now.k) 15 (a.d + 15)) one)
    ∙ tells a.self.now.q ((whole_in a.self.now.s.now (number_of a.self.now.k) 15 a.d) && (whole_in a.self.now.s.now (number_of a.self.now.k) 15 (a.d + 15))) (λ (o : List ℕ). in_metres a.self.now.s.now (number_of a.self.now.k) 15 (a.d + 15) (in_metres a.self.now.s.now (number_of a.self.now.k) 15 a.d o)) a.out.now
    (both_true (whole_in a.self.now.s.now (number_of a.self.now.k) 15 a.d) (whole_in a.self.now.s.now (number_of a.self.now.k) 15 (a.d + 15)) (sym (distance_is a.self.now.s.now long c.distance_whole.ensures) ∙ c.if-not-distance_whole.false)
    (sym (distance_is a.self.now.s.now long c.distance_whole-2.ensures) ∙ c.if-not-distance_whole-2.false))
