-- `bodies::with_radio` meets its contract: the two halves of the number joined. Assumes nothing.
use mathlib.Core.Path.{sym, ap, ◌∙◌}
use native.Mathlib.Omega.{arith}
use Rattle.bodies.specs.Bodies.{so_many}
use Rattle.bodies.proofs.Tests.{radio_long, radio_lacking, high_short, low_short, radio_broken, radio_kept, halves}
use Rattle.bodies.proofs.with_radio.Goals as goal

pub returns-then-long-wanted : goal.returns-then-long-wanted
returns-then-long-wanted c = let a = c.args in ap (so_many a.values) (radio_long a.s.now a.n a.start.at a.place a.long a.wanted 1 c.if-long-wanted.true)

pub returns-in_err-c : goal.returns-in_err-c
returns-in_err-c c =
    let a = c.args in
    c.from_residual.ensures ∙ ap (so_many a.values) (radio_lacking a.s.now a.n a.start.at a.place a.long a.wanted 1 (omega arith) (sym c.skip.ensures ∙ c.in_err-c.was))

pub returns-in_err-high : goal.returns-in_err-high
returns-in_err-high c =
    let a = c.args in
    c.from_residual-in_err-high.ensures
    ∙ ap (so_many a.values) (high_short a.s.now a.n a.start.at a.place a.long a.wanted 1 (omega arith) (sym c.skip.ensures ∙ c.in_ok-c.was) (sym c.ahead.ensures ∙ c.in_err-high.was))

pub returns-in_err-low : goal.returns-in_err-low
returns-in_err-low c =
    let a = c.args in
    c.from_residual-in_err-low.ensures
    ∙ ap (so_many a.values)
    (low_short a.s.now a.n a.start.at a.place a.long a.wanted 1 (omega arith) (sym c.skip.ensures ∙ c.in_ok-c.was) (sym c.ahead.ensures ∙ c.in_ok-high.was)
    (sym c.ahead-2.ensures ∙ c.in_err-low.was))

pub returns-then-allowed : goal.returns-then-allowed
returns-then-allowed c =
    let a = c.args in
    ap (so_many a.values)
    (radio_kept a.s.now a.n a.start.at a.place a.long a.wanted 1 (omega arith) (sym c.skip.ensures ∙ c.in_ok-c.was) (sym c.ahead.ensures ∙ c.in_ok-high.was)
    (sym c.ahead-2.ensures ∙ c.in_ok-low.was) (sym (rw (← (halves _ _ c.behind.ensures c.behind-2.ensures)) c.allowed.ensures) ∙ c.if-allowed.true))

pub returns : goal.returns
returns c =
    let a = c.args in
    ap (so_many a.values)
    (radio_broken a.s.now a.n a.start.at a.place a.long a.wanted 1 (omega arith) (sym c.skip.ensures ∙ c.in_ok-c.was) (sym c.ahead.ensures ∙ c.in_ok-high.was)
    (sym c.ahead-2.ensures ∙ c.in_ok-low.was) (sym (rw (← (halves _ _ c.behind.ensures c.behind-2.ensures)) c.allowed.ensures) ∙ c.if-allowed.false))
