-- `find` of a group of ETCS-27 meets its contract: its inner list decides it. Assumes nothing.
use mathlib.Core.Path.{sym, ◌∙◌}
use native.Mathlib.Omega.{arith}
use Rattle.wide_lists.proofs.Apart.{speed_short, speed_broken, speed_kept}
use Rattle.wide_lists.proofs.StretchGroup.find.Goals as goal

pub returns-then-n-gt830 : goal.returns-then-n-gt830
returns-then-n-gt830 c h = absurd (omega (arith, h))

pub returns-in_err-w : goal.returns-in_err-w
returns-in_err-w c h = let a = c.args in c.from_residual.ensures ∙ speed_short a.s.now a.n a.c.at (sym c.ahead.ensures ∙ c.in_err-w.was)

pub returns-then-not-differ : goal.returns-then-not-differ
returns-then-not-differ c h =
    let a = c.args in
    speed_broken a.s.now a.n a.c.at _ _ (sym c.ahead.ensures ∙ c.in_ok-w.was) c.behind-times.result c.behind-times.ensures
    (sym c.differ.ensures ∙ c.if-not-differ.true)

pub returns : goal.returns
returns c h =
    let a = c.args in
    speed_kept a.s.now a.n a.c.at _ _ (sym c.ahead.ensures ∙ c.in_ok-w.was) c.behind-times.result c.behind-times.ensures
    (sym c.differ.ensures ∙ c.if-not-differ.false)
