-- `retelling::Scaled::led` meets its contract. Assumes nothing.
use mathlib.Core.Bool.{◌&&◌}
use mathlib.Core.List.{List}
use mathlib.Core.Path.{sym, ap, ◌∙◌}
use Prim.Native.Nat.{ℕ, ◌+◌, ◌≤◌}
use native.Mathlib.Omega.{arith}
use lib.ListN.{length}
use Rattle.distance.specs.Distance.{number_of}
use Rattle.told.specs.Metres.{in_metres, metres_said, list_put}
use Rattle.told.specs.Decides.{whole_in, list_whole}
use Rattle.metre_lists.specs.Groups.{whole_of, end_of, put_of}
use Rattle.retelling.proofs.ByNumber.{distance_is, put_is, list_is, list_kept, list_put_lem, stays, tells, first_false, second_false, both_true}
use Rattle.retelling.proofs.Scaled.led.Goals as goal

pub returns-then-not-distance_whole : goal.returns-then-not-distance_whole
returns-then-not-distance_whole c =
    let a = c.args in
    let long : 8 ≤ length a.self.now.s.now = omega arith in
    stays a.self.now.q ((whole_in a.self.now.s.now (number_of a.self.now.k) 15 a.d) && (list_whole a.self.now.s.now (whole_of a.g a.self.now.s.now (number_of a.self.now.k)) (end_of a.g a.self.now.s.now) (a.d + 15))) (λ (o : List ℕ). list_put a.self.now.s.now (put_of a.g a.self.now.s.now (number_of a.self.now.k)) (end_of a.g a.self.now.s.now) (a.d + 15) (in_metres a.self.now.s.now (number_of a.self.now.k) 15 a.d o)) a.out.now (first_false (whole_in a.self.now.s.now (number_of a.self.now.k) 15 a.d) (list_whole a.self.now.s.now (whole_of a.g a.self.now.s.now (number_of a.self.now.k)) (end_of a.g a.self.now.s.now) (a.d + 15)) (sym (distance_is a.self.now.s.now long c.distance_whole.ensures) ∙ c.if-not-distance_whole.true))

pub returns-then-not-list : goal.returns-then-not-list
returns-then-not-list c =
    let a = c.args in
    let long : 8 ≤ length a.self.now.s.now = omega arith in
    let r = c.list.ensures in
    list_kept a.self.now.s.now long a.out.now (omega arith) (a.d + 15) (omega arith) (list_put a.self.now.s.now (put_of a.g a.self.now.s.now (number_of a.self.now.k)) (end_of a.g a.self.now.s.now) (a.d + 15) a.out.now) r.1
    ∙ stays a.self.now.q ((whole_in a.self.now.s.now (number_of a.self.now.k) 15 a.d) && (list_whole a.self.now.s.now (whole_of a.g a.self.now.s.now (number_of a.self.now.k)) (end_of a.g a.self.now.s.now) (a.d + 15))) (λ (o : List ℕ). list_put a.self.now.s.now (put_of a.g a.self.now.s.now (number_of a.self.now.k)) (end_of a.g a.self.now.s.now) (a.d + 15) (in_metres a.self.now.s.now (number_of a.self.now.k) 15 a.d o)) a.out.now
    (second_false (whole_in a.self.now.s.now (number_of a.self.now.k) 15 a.d) (list_whole a.self.now.s.now (whole_of a.g a.self.now.s.now (number_of a.self.now.k)) (end_of a.g a.self.now.s.now) (a.d + 15)) (sym (distance_is a.self.now.s.now long c.distance_whole.ensures) ∙ c.if-not-distance_whole.false)
    (sym (list_is a.self.now.s.now long a.out.now (omega arith) (a.d + 15) (omega arith) r.0) ∙ c.if-not-list.true))

pub returns : goal.returns
returns c =
    let a = c.args in
    let long : 8 ≤ length a.self.now.s.now = omega arith in
    let r = c.list.ensures in
    let kept = list_kept a.self.now.s.now long a.out.now (omega arith) (a.d + 15) (omega arith) (list_put a.self.now.s.now (put_of a.g a.self.now.s.now (number_of a.self.now.k)) (end_of a.g a.self.now.s.now) (a.d + 15) a.out.now) r.1 in
    let one = put_is a.self.now.s.now long c.list.new.out (omega (arith, c.out-1.given)) c.distance_put.ensures in
    let all = list_put_lem a.self.now.s.now long c.distance_put.new.out (omega (arith, c.out-1.given, c.out-2-1.given)) (a.d + 15) (omega arith) c.list-2.ensures.1 in
    c.said.ensures
    ∙ ap (metres_said a.self.now.q) (all ∙ ap (list_put a.self.now.s.now (put_of a.g a.self.now.s.now (number_of a.self.now.k)) (end_of a.g a.self.now.s.now) (a.d + 15)) (one ∙ ap (in_metres a.self.now.s.now (number_of a.self.now.k) 15 a.d) kept))
    ∙ tells a.self.now.q ((whole_in a.self.now.s.now (number_of a.self.now.k) 15 a.d) && (list_whole a.self.now.s.now (whole_of a.g a.self.now.s.now (number_of a.self.now.k)) (end_of a.g a.self.now.s.now) (a.d + 15))) (λ (o : List ℕ). list_put a.self.now.s.now (put_of a.g a.self.now.s.now (number_of a.self.now.k)) (end_of a.g a.self.now.s.now) (a.d + 15) (in_metres a.self.now.s.now (number_of a.self.now.k) 15 a.d o)) a.out.now
    (both_true (whole_in a.self.now.s.now (number_of a.self.now.k) 15 a.d) (list_whole a.self.now.s.now (whole_of a.g a.self.now.s.now (number_of a.self.now.k)) (end_of a.g a.self.now.s.now) (a.d + 15)) (sym (distance_is a.self.now.s.now long c.distance_whole.ensures) ∙ c.if-not-distance_whole.false)
    (sym (list_is a.self.now.s.now long a.out.now (omega arith) (a.d + 15) (omega arith) r.0) ∙ c.if-not-list.false))
