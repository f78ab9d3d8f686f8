-- `parse::digits_at` meets its contract. The loop's invariant, `Reading`: what is read from at on is what is read from i on behind
-- the digits of v. Assumes nothing.
use mathlib.Core.Path.{◌≡◌, sym, ◌∙◌}
use mathlib.Core.Bool.{true}
use native.Mathlib.Omega.{arith}
use lib.ListN.{get_or}
use Rattle.pieces.specs.Numbers.{is_digit}
use Rattle.pieces.proofs.Decimals.{digit_bounds}
use Rattle.pieces.proofs.Loops.{reading_first, reading_on, reads_end, reads_off, reads_large}
use Rattle.parse.proofs.digits_at.Goals as goal

pub loop-i-init : goal.loop-i-init
loop-i-init c = (omega arith, reading_first c.args.text.now c.args.at)

pub returns-then-not-is_ascii_digit : goal.returns-then-not-is_ascii_digit
returns-then-not-is_ascii_digit c = sym (reads_off c.loop-i.invariant.1 (omega arith) (sym c.is_ascii_digit.ensures.value ∙ c.if-not-is_ascii_digit.true))

pub overflow_sub-d : goal.overflow_sub-d
overflow_sub-d c = (digit_bounds _ (sym c.is_ascii_digit.ensures.value ∙ c.if-not-is_ascii_digit.false)).0

pub overflow_cast-d : goal.overflow_cast-d
overflow_cast-d c = let b = digit_bounds (get_or c.args.text.now c.loop-i.i 0) (sym c.is_ascii_digit.ensures.value ∙ c.if-not-is_ascii_digit.false) in omega (arith, b.1)

pub overflow_sub-d-in-loop-i : goal.overflow_sub-d-in-loop-i
overflow_sub-d-in-loop-i c = let b = digit_bounds (get_or c.args.text.now c.loop-i.i 0) (sym c.is_ascii_digit.ensures.value ∙ c.if-not-is_ascii_digit.false) in omega (arith, b.1)

pub returns-then-d-v : goal.returns-then-d-v
returns-then-d-v c =
    let e : is_digit (get_or c.args.text.now c.loop-i.i 0) ≡ true = sym c.is_ascii_digit.ensures.value ∙ c.if-not-is_ascii_digit.false in
    let b = digit_bounds (get_or c.args.text.now c.loop-i.i 0) e in
    sym (reads_large c.loop-i.invariant.1 (omega arith) e (omega (arith, b.0, b.1, c.if-d-v.true)))

pub overflow_mul-v : goal.overflow_mul-v
overflow_mul-v c = omega (arith, c.if-d-v.false)

pub overflow_add-v : goal.overflow_add-v
overflow_add-v c =
    let b = digit_bounds (get_or c.args.text.now c.loop-i.i 0) (sym c.is_ascii_digit.ensures.value ∙ c.if-not-is_ascii_digit.false) in
    omega (arith, b.1, c.if-d-v.false)

pub loop-i-preserved : goal.loop-i-preserved
loop-i-preserved c =
    let e : is_digit (get_or c.args.text.now c.loop-i.i 0) ≡ true = sym c.is_ascii_digit.ensures.value ∙ c.if-not-is_ascii_digit.false in
    let b = digit_bounds (get_or c.args.text.now c.loop-i.i 0) e in
    (omega arith, reading_on c.loop-i.invariant.1 (omega arith) e (omega (arith, b.1, c.if-d-v.false)))

pub returns : goal.returns
returns c =
    let end : c.max.result ≡ c.loop-i.i = omega (arith, c.max.ensures, c.loop-i.invariant.0) in
    rw end (sym (reads_end c.loop-i.invariant.1 (omega arith)))
