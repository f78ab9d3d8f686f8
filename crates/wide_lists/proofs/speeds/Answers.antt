-- `wide_lists::speeds` meets its contract. Assumes nothing.
use mathlib.Core.Path.{ap, ◌∙◌}
use Rattle.hops.specs.Hops.{counted}
use Rattle.wide_lists.proofs.Apart.{speeds_is}
use Rattle.wide_lists.proofs.speeds.Goals as goal

pub returns : goal.returns
returns c = let a = c.args in c.apart.ensures ∙ ap counted (speeds_is a.s.now a.n a.end a.start.at)
