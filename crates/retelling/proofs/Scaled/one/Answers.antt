-- `retelling::Scaled::one` meets its contract. Assumes nothing.
use mathlib.Core.Path.{sym, ap, ◌∙◌}
use Prim.Native.Nat.{◌≤◌}
use native.Mathlib.Omega.{arith}
use lib.ListN.{length}
use Rattle.distance.specs.Distance.{number_of}
use Rattle.told.specs.Metres.{in_metres, metres_said}
use Rattle.told.specs.Decides.{whole_in}
use Rattle.retelling.proofs.ByNumber.{distance_is, put_is, stays, tells}
use Rattle.retelling.proofs.Scaled.one.Goals as goal

pub returns-then-not-distance_whole : goal.returns-then-not-distance_whole
returns-then-not-distance_whole c =
    let a = c.args in
    let long : 8 ≤ length a.self.now.s.now = omega arith in
    stays a.self.now.q (whole_in a.self.now.s.now (number_of a.self.now.k) 15 a.d) (in_metres a.self.now.s.now (number_of a.self.now.k) 15 a.d) a.out.now (sym (distance_is a.self.now.s.now long c.distance_whole.ensures) ∙ c.if-not-distance_whole.true)

pub returns : goal.returns
returns c =
    let a = c.args in
    let long : 8 ≤ length a.self.now.s.now = omega arith in
    c.said.ensures
    ∙ ap (metres_said a.self.now.q) (put_is a.self.now.s.now long a.out.now (omega arith) c.distance_put.ensures)
    ∙ tells a.self.now.q (whole_in a.self.now.s.now (number_of a.self.now.k) 15 a.d) (in_metres a.self.now.s.now (number_of a.self.now.k) 15 a.d) a.out.now (sym (distance_is a.self.now.s.now long c.distance_whole.ensures) ∙ c.if-not-distance_whole.false)
