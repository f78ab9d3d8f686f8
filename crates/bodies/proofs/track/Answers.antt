-- `bodies::track` meets its contract. Assumes nothing.
use mathlib.Core.Path.{ap, ◌∙◌}
use native.Mathlib.Omega.{arith}
use Rattle.hops.specs.Hops.{counted}
use Rattle.bodies.proofs.Tests.{sized_many, track_first, track_list}
use Rattle.bodies.proofs.track.Goals as goal

pub returns-then-initial-eq1 : goal.returns-then-initial-eq1
returns-then-initial-eq1 c =
    let a = c.args in
    c.sized.ensures ∙ sized_many 6 (omega arith) a.long 41 ∙ ap counted (track_first a.s.now a.n a.end a.start.at a.long a.initial c.if-initial-eq1.true)

pub returns : goal.returns
returns c =
    let a = c.args in
    c.conditions.ensures ∙ ap counted (track_list a.s.now a.n a.end a.start.at a.long a.initial c.if-initial-eq1.false)
