-- `lists::links` meets its contract. Assumes nothing.
use mathlib.Core.Path.{ap, ◌∙◌}
use Rattle.hops.specs.Hops.{counted}
use Rattle.lists.proofs.Turns.{links_is}
use Rattle.lists.proofs.links.Goals as goal

pub returns : goal.returns
returns c = let a = c.args in c.list.ensures ∙ ap counted (links_is a.s.now a.n a.end a.start.at)
