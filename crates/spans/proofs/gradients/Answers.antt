-- `spans::gradients` meets its contract. Assumes nothing.
use mathlib.Core.Path.{◌∙◌}
use Prim.Native.Nat.{◌+◌, ◌*◌}
use native.Mathlib.Omega.{arith}
use Rattle.bodies.proofs.Tests.{sized_many}
use Rattle.spans.proofs.gradients.Goals as goal

pub returns : goal.returns
returns c = let a = c.args in c.sized.ensures ∙ sized_many (8 + 3 * a.times) (omega arith) a.long (54 + 24 * a.times)
