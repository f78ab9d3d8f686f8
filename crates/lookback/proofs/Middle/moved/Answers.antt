-- `lookback::Middle::moved` meets its contract: the tests of the definition, and the L_PACKET behind the first ten bits. Assumes nothing.
use mathlib.Core.Path.{◌∙◌}
use Prim.Native.Nat.{◌+◌, ◌/◌}
use native.Mathlib.Omega.{arith}
use borrow.Author.Tests.{le-leb, lt-leb, not-true, not-false}
use lib.ListN.{length}
use Rattle.lookback.specs.Middle.{edge_behind}
use Rattle.lookback.proofs.Window.{near_is}
use Rattle.lookback.proofs.Middle.moved.Goals as goal

pub returns-then-not-self : goal.returns-then-not-self
returns-then-not-self c = rw (not-true c.args.self.late c.if-not-self.true)

pub returns-then-at-gt830 : goal.returns-then-at-gt830
unfolding edge_behind
returns-then-at-gt830 c =
    let m = c.args.self in
    rw (not-false m.late c.if-not-self.false, lt-leb m.at 830 (omega arith))

pub returns-then-s-at : goal.returns-then-s-at
unfolding edge_behind
returns-then-s-at c =
    let a = c.args in
    let m = a.self in
    rw (
      not-false m.late c.if-not-self.false,
      le-leb m.at 830 (omega arith),
      lt-leb (m.at / 8 + 4) (length a.s.now) (omega arith),
    )

pub overflow_add-result : goal.overflow_add-result
overflow_add-result c = omega (arith, c.long.ensures)

pub returns : goal.returns
unfolding edge_behind
returns c =
    let a = c.args in
    let m = a.self in
    let there = near_is a.s.now m.at (omega arith) c.near.ensures in
    rw (
      not-false m.late c.if-not-self.false,
      le-leb m.at 830 (omega arith),
      le-leb (m.at / 8 + 4) (length a.s.now) (omega arith),
      c.long.ensures ∙ there.part 10 13 (omega arith),
    )
