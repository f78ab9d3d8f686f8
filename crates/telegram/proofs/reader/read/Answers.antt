-- `telegram::reader::read` meets its contract: room, then the check's answer; only what it accepted is stored. Assumes nothing.
use Rattle.std.specs.Prelude.{Err}
use mathlib.Core.Path.{◌≡◌, sym, ◌∙◌}
use borrow.Author.Rules.{rules}
use native.Mathlib.Omega.{arith}
use Rattle.format.proofs.Numbers.{answer_is}
use Rattle.states.proofs.Checking.{reads_roomless, reads_refused, reads_accepted, fillable}
use Rattle.telegram.proofs.reader.read.Goals as goal

pub returns-then-out-lt830 : goal.returns-then-out-lt830
returns-then-out-lt830 c = let a = c.args in rw c.at_once.ensures (reads_roomless a.s.now a.n a.out.now (omega (arith, c.if-out-lt830.true)))

pub returns-in_err-count : goal.returns-in_err-count
returns-in_err-count c =
    let a = c.args in
    let passed_on : c.from_residual.result ≡ Err c.in_err-count.field-0.0 = search rules in
    rw (passed_on ∙ sym c.in_err-count.was) (reads_refused a.s.now a.n a.out.now c.if-out-lt830.false _ _ (answer_is _ _ c.check.ensures) c.in_err-count.was)

pub fill-requires : goal.fill-requires
fill-requires c =
    let a = c.args in
    fillable a.s.now a.n a.out.now _ _ c.if-out-lt830.false (answer_is _ _ c.check.ensures) c.in_ok-count.was

pub returns : goal.returns
returns c =
    let a = c.args in
    rw (← c.in_ok-count.was) (reads_accepted a.s.now a.n a.out.now c.if-out-lt830.false _ _ _ (answer_is _ _ c.check.ensures) c.in_ok-count.was c.fill.ensures)
