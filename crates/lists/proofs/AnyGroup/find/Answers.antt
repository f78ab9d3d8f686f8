-- `find` of a group that is known by its window meets its contract: by the window there. Assumes nothing.
use mathlib.Core.Path.{sym, ap, ◌∙◌}
use Rattle.hops.specs.Hops.{kept}
use Rattle.lists.proofs.Turns.{group_seen, group_short}
use Rattle.lists.proofs.AnyGroup.find.Goals as goal

pub returns-in_err-w : goal.returns-in_err-w
returns-in_err-w g c h =
    let a = c.args in
    c.from_residual.ensures
    ∙ ap kept (sym (group_short a.s.now a.n g.W.Windowed.WIDTH g.W.Windowed.hop a.c.at (sym (rw c.WIDTH.ensures at c.ahead.ensures) ∙ c.in_err-w.was)))

pub returns : goal.returns
returns g c h =
    let a = c.args in
    c.hop.ensures
    ∙ ap kept (sym (group_seen a.s.now a.n g.W.Windowed.WIDTH g.W.Windowed.hop a.c.at (sym (rw c.WIDTH.ensures at c.ahead.ensures) ∙ c.in_ok-w.was)))
