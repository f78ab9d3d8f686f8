-- `lists::circuits` meets its contract. Assumes nothing.
use mathlib.Core.Path.{ap, ◌∙◌}
use Rattle.hops.specs.Hops.{counted}
use Rattle.lists.proofs.Turns.{circuits_is}
use Rattle.lists.proofs.circuits.Goals as goal

pub returns : goal.returns
returns c = let a = c.args in c.list.ensures ∙ ap counted (circuits_is a.s.now a.n a.end a.start.at)
