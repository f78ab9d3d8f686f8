-- `lists::levels` meets its contract. Assumes nothing.
use mathlib.Core.Path.{ap, ◌∙◌}
use Rattle.hops.specs.Hops.{counted}
use Rattle.lists.proofs.Turns.{levels_is}
use Rattle.lists.proofs.levels.Goals as goal

pub returns : goal.returns
returns c = let a = c.args in c.list.ensures ∙ ap counted (levels_is a.s.now a.n a.end a.start.at)
