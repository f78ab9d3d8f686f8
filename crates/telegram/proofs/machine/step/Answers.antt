-- `telegram::machine::step` meets its contract: the value's rule first, then what follows it. Assumes nothing.
use Rattle.std.specs.Prelude.{Err}
use mathlib.Core.Path.{◌≡◌}
use borrow.Author.Rules.{rules}
use Rattle.states.proofs.Stepping.{stepped_breaks, stepped_goes}
use Rattle.telegram.proofs.machine.step.Goals as goal

pub returns-in_err-judge : goal.returns-in_err-judge
returns-in_err-judge c =
    let a = c.args in
    let passed_on : c.from_residual.result ≡ Err c.in_err-judge.field-0.0 = search rules in
    rw passed_on (stepped_breaks a.s a.v a.twice c.requires.sound _ c.in_err-judge.ensures)

pub returns : goal.returns
returns c =
    let a = c.args in
    stepped_goes a.s a.v a.twice c.requires.sound c.entered.result c.in_ok-judge.ensures c.entered.ensures
