-- What is left to test of the places behind the first i, after an F or not, is what was to be tested of all sixteen, and the place in hand decides one step of it. Assumes nothing.
use mathlib.Core.Path.{◌≡◌, sym, ◌∙◌}
use Prim.Native.Nat.{◌+◌, ◌-◌}
use native.Mathlib.Omega.{arith}
use Rattle.states.proofs.Places.{full_at, digit_at, bad_digit, late_digit, all_read}
use Rattle.radio_number.proofs.allowed.Goals as goal
use Rattle.radio_number.proofs.allowed.Goals.{then-d-eq-F, else-d-eq-F+else-d-gt9+else-full}

pub returns-then-d-gt9 : goal.returns-then-d-gt9
returns-then-d-gt9 c =
    let l = c.loop-i in
    sym (l.invariant ∙ bad_digit c.args.v l.full (16 - l.i) (15 - l.i) (omega arith) c.if-d-eq-F.false c.if-d-gt9.true)

pub returns-then-full : goal.returns-then-full
returns-then-full c =
    let l = c.loop-i in
    sym (l.invariant ∙ late_digit c.args.v l.full (16 - l.i) (15 - l.i) (omega arith) c.if-d-eq-F.false c.if-d-gt9.false c.if-full.true)

pub loop-i-preserved : goal.loop-i-preserved
loop-i-preserved c =
    let v = c.args.v in
    let l = c.loop-i in
    let on : 16 - (l.i + 1) ≡ 15 - l.i = omega arith in
    elim c.if-d-eq-F.branch [
      | then-d-eq-F w ↦ rw (on, w.full-is) (l.invariant ∙ full_at v l.full (16 - l.i) (15 - l.i) (omega arith) w.if-d-eq-F.true)
      | else-d-eq-F+else-d-gt9+else-full w ↦
          rw (on, w.full-is) (l.invariant ∙ digit_at v l.full (16 - l.i) (15 - l.i) (omega arith) w.if-d-gt9.false w.if-full.false)
    ]

pub returns : goal.returns
returns c = let l = c.loop-i in sym (l.invariant ∙ all_read c.args.v l.full (16 - l.i) (omega arith))
