-- `retelling::Scaled::list` meets its contract. Assumes nothing.
use mathlib.Core.Path.{sym, ap, ◌∙◌}
use Prim.Native.Nat.{◌≤◌}
use native.Mathlib.Omega.{arith}
use lib.ListN.{length}
use Rattle.distance.specs.Distance.{number_of}
use Rattle.told.specs.Metres.{metres_said, list_put}
use Rattle.told.specs.Decides.{list_whole}
use Rattle.metre_lists.specs.Groups.{whole_of, end_of, put_of}
use Rattle.retelling.proofs.ByNumber.{list_is, list_kept, list_put_lem, stays, tells}
use Rattle.retelling.proofs.Scaled.list.Goals as goal

pub returns-then-not-list : goal.returns-then-not-list
returns-then-not-list c =
    let a = c.args in
    let long : 8 ≤ length a.self.now.s.now = omega arith in
    let r = c.list.ensures in
    list_kept a.self.now.s.now long a.out.now (omega arith) a.x (omega arith) (list_put a.self.now.s.now (put_of a.g a.self.now.s.now (number_of a.self.now.k)) (end_of a.g a.self.now.s.now) a.x a.out.now) r.1
    ∙ stays a.self.now.q (list_whole a.self.now.s.now (whole_of a.g a.self.now.s.now (number_of a.self.now.k)) (end_of a.g a.self.now.s.now) a.x) (list_put a.self.now.s.now (put_of a.g a.self.now.s.now (number_of a.self.now.k)) (end_of a.g a.self.now.s.now) a.x) a.out.now (sym (list_is a.self.now.s.now long a.out.now (omega arith) a.x (omega arith) r.0) ∙ c.if-not-list.true)

pub returns : goal.returns
returns c =
    let a = c.args in
    let long : 8 ≤ length a.self.now.s.now = omega arith in
    let r = c.list.ensures in
    let kept = list_kept a.self.now.s.now long a.out.now (omega arith) a.x (omega arith) (list_put a.self.now.s.now (put_of a.g a.self.now.s.now (number_of a.self.now.k)) (end_of a.g a.self.now.s.now) a.x a.out.now) r.1 in
    c.said.ensures
    ∙ ap (metres_said a.self.now.q) (list_put_lem a.self.now.s.now long c.list.new.out (omega (arith, c.out-1.given)) a.x (omega arith) c.list-2.ensures.1 ∙ ap (list_put a.self.now.s.now (put_of a.g a.self.now.s.now (number_of a.self.now.k)) (end_of a.g a.self.now.s.now) a.x) kept)
    ∙ tells a.self.now.q (list_whole a.self.now.s.now (whole_of a.g a.self.now.s.now (number_of a.self.now.k)) (end_of a.g a.self.now.s.now) a.x) (list_put a.self.now.s.now (put_of a.g a.self.now.s.now (number_of a.self.now.k)) (end_of a.g a.self.now.s.now) a.x) a.out.now (sym (list_is a.self.now.s.now long a.out.now (omega arith) a.x (omega arith) r.0) ∙ c.if-not-list.false)
