-- `parse::decimal_at` meets its contract: nothing left, a 0, another digit, or no digit. Assumes nothing.
use mathlib.Core.Path.{◌≡◌, sym, ◌∙◌}
use native.Mathlib.Omega.{arith}
use lib.ListN.{get_or}
use Rattle.pieces.proofs.Loops.{at_end, at_zero, at_other, at_digits}
use Rattle.parse.proofs.decimal_at.Goals as goal

pub returns-in_err-c : goal.returns-in_err-c
returns-in_err-c c = rw c.from_residual.ensures (sym (at_end c.args.text.now c.args.at c.in_err-c.ensures.lookup.3))

pub returns-then-c-eq48 : goal.returns-then-c-eq48
returns-then-c-eq48 c =
    let g = c.in_ok-c.ensures.lookup in
    let e : c.in_ok-c.field-0.now ≡ get_or c.args.text.now c.args.at 0 = g.4 (omega arith) 0 in
    sym (at_zero c.args.text.now c.args.at g.3.0 (sym e ∙ c.if-c-eq48.true))

pub returns-then-not-is_ascii_digit : goal.returns-then-not-is_ascii_digit
returns-then-not-is_ascii_digit c =
    let g = c.in_ok-c.ensures.lookup in
    let e : c.in_ok-c.field-0.now ≡ get_or c.args.text.now c.args.at 0 = g.4 (omega arith) 0 in
    sym (at_other c.args.text.now c.args.at g.3.0 (λ z. c.if-c-eq48.false (e ∙ z)) (rw (← e) (sym c.if-not-is_ascii_digit.ensures.value)))

pub returns : goal.returns
returns c =
    let g = c.in_ok-c.ensures.lookup in
    let e : c.in_ok-c.field-0.now ≡ get_or c.args.text.now c.args.at 0 = g.4 (omega arith) 0 in
    c.digits_at.ensures
    ∙ sym (at_digits c.args.text.now c.args.at g.3.0 (λ z. c.if-c-eq48.false (e ∙ z)) (rw (← e) (sym c.if-not-is_ascii_digit.ensures.value)))
