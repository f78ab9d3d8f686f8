-- `bodies::sized` meets its contract. Assumes nothing.
use mathlib.Core.Path.{ap}
use native.Mathlib.Omega.{arith}
use Rattle.bodies.specs.Bodies.{so_many}
use Rattle.bodies.proofs.Tests.{sized_so, sized_else}
use Rattle.bodies.proofs.sized.Goals as goal

pub returns-then-long-wanted : goal.returns-then-long-wanted
returns-then-long-wanted c = let a = c.args in ap (so_many a.values) (sized_so a.long a.wanted 1 (omega arith))

pub returns : goal.returns
returns c = let a = c.args in ap (so_many a.values) (sized_else a.long a.wanted 1 c.if-long-wanted.false)
