-- `copying::copy` meets its contract: after i turns the first i bytes are copied, and the last eight once more. Assumes nothing.
use mathlib.Core.List.{List, ◌++◌}
use mathlib.Core.Path.{◌≡◌, refl, ap, ◌∙◌}
use Prim.Native.Nat.{ℕ, ◌+◌, ◌-◌}
use native.Mathlib.Omega.{arith}
use borrow.Author.Tests.{le-leb, lt-leb}
use lib.ListN.{length, drop}
use lib.Seq.{take_all}
use Rattle.copying.proofs.Pasted.{fronted, length_fronted, eight_more}
use Rattle.copying.proofs.copy.Goals as goal

pub returns-then-out-s : goal.returns-then-out-s
returns-then-out-s c = let a = c.args in rw (lt-leb (length a.s.now) (length a.out.now) c.if-out-s.true) refl

pub shape_of-out-then-s-lt8 : goal.shape_of-out-then-s-lt8
shape_of-out-then-s-lt8 c = c.out-1.given

pub returns-then-s-lt8 : goal.returns-then-s-lt8
returns-then-s-lt8 c = let a = c.args in rw (le-leb (length a.s.now) (length a.out.now) (omega arith)) c.few.ensures

pub loop-i-init : goal.loop-i-init
loop-i-init c = (omega arith, refl)

pub eight-requires : goal.eight-requires
eight-requires c = (omega (arith, c.loop-i-test.true), omega (arith, length_fronted c.args.out.now c.args.s.now (omega arith) c.loop-i.i c.loop-i.invariant.0, ap length c.loop-i.invariant.1))

pub overflow_add-i : goal.overflow_add-i
overflow_add-i c = omega (arith, c.loop-i-test.true)

pub loop-i-smaller : goal.loop-i-smaller
loop-i-smaller c = omega (arith, c.loop-i-test.true)

pub loop-i-preserved : goal.loop-i-preserved
loop-i-preserved c =
    let a = c.args in
    let l = c.loop-i in (
      omega (arith, c.loop-i-test.true),
      rw l.invariant.1 at c.eight.ensures ∙ eight_more a.out.now a.s.now (omega arith) l.i l.i (omega arith) (omega arith) (omega (arith, c.loop-i-test.true)),
    )

pub eight-requires-2 : goal.eight-requires-2
eight-requires-2 c = (omega arith, omega (arith, length_fronted c.args.out.now c.args.s.now (omega arith) c.loop-i.i c.loop-i.invariant.0, ap length c.loop-i.invariant.1))

pub shape_of-out : goal.shape_of-out
shape_of-out c = c.out-2-1.given ∙ ap length c.loop-i.invariant.1 ∙ length_fronted c.args.out.now c.args.s.now (omega arith) c.loop-i.i c.loop-i.invariant.0

pub returns : goal.returns
returns c =
    let a = c.args in
    let l = c.loop-i in
    let last : length a.s.now - 8 + 8 ≡ length a.s.now = omega arith in
    rw (le-leb (length a.s.now) (length a.out.now) (omega arith))
    (rw l.invariant.1 at c.eight-2.ensures
    ∙ eight_more a.out.now a.s.now (omega arith) l.i (length a.s.now - 8) (omega (arith, c.loop-i-test.false)) (omega (arith, l.invariant.0)) (omega arith)
    ∙ ap (fronted a.out.now a.s.now) last
    ∙ ap (λ (x : List ℕ). x ++ drop (length a.s.now) a.out.now) (take_all (length a.s.now) a.s.now (omega arith)))
