-- `bodies::stopping` meets its contract. Assumes nothing.
use mathlib.Core.Path.{ap, ◌∙◌}
use native.Mathlib.Omega.{arith}
use Rattle.hops.specs.Hops.{counted}
use Rattle.bodies.proofs.Tests.{sized_many, stopping_over, stopping_kept}
use Rattle.bodies.proofs.stopping.Goals as goal

pub returns-then-stop-ne0 : goal.returns-then-stop-ne0
returns-then-stop-ne0 c = let a = c.args in ap counted (stopping_over a.long a.stop c.if-stop-ne0.true)

pub returns : goal.returns
returns c = let a = c.args in c.sized.ensures ∙ sized_many 7 (omega arith) a.long 48 ∙ ap counted (stopping_kept a.long a.stop (omega arith))
