-- `hops::transition` meets its contract. Assumes nothing.
use mathlib.Core.Path.{sym, ap, ◌∙◌}
use native.Mathlib.Omega.{arith}
use Rattle.hops.specs.Hops.{kept, level_in}
use Rattle.hops.proofs.Bounds.{level_small}
use Rattle.hops.proofs.Kept.{is_leveled, counted_is, counted_none, counted_few}
use Rattle.hops.proofs.Tests.{leveled_none}
use Rattle.hops.proofs.transition.Goals as goal

pub returns-in_err-level : goal.returns-in_err-level
returns-in_err-level c =
    c.from_residual.ensures ∙ ap kept (leveled_none (level_in 4 c.args.w) 15 2 (counted_none _ (sym c.level.ensures ∙ c.in_err-level.was)))

pub with_level-requires : goal.with_level-requires
with_level-requires c =
    let few = counted_few (level_in 4 c.args.w) c.in_ok-level.field-0 11 (sym c.level.ensures ∙ c.in_ok-level.was) (level_small 4 c.args.w) in
    (few.0, few.1, omega arith, omega arith)

pub returns : goal.returns
returns c =
    let is = sym c.level.ensures ∙ c.in_ok-level.was in
    let few = counted_few (level_in 4 c.args.w) c.in_ok-level.field-0 11 is (level_small 4 c.args.w) in
    is_leveled 15 2 (counted_is _ _ is) few.0 c.with_level.ensures
