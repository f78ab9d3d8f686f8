-- `retelling::track` meets its contract. Assumes nothing.
use mathlib.Core.Path.{◌∙◌}
use Prim.Native.Nat.{◌≤◌}
use native.Mathlib.Omega.{arith}
use borrow.Author.Tests.{eq-eqb, ne_eqb}
use lib.ListN.{length}
use Rattle.metre_lists.proofs.Reading.{there}
use Rattle.retelling.proofs.track.Goals as goal

pub returns-then-behind-eq1 : goal.returns-then-behind-eq1
returns-then-behind-eq1 c =
    let a = c.args in
    let long : 8 ≤ length a.p.now.s.now = omega arith in
    c.one.ensures ∙ rw (← (c.behind.ensures ∙ there a.p.now.s.now a.p.now.x long a.p.now.within.2 25 1 (omega arith)), eq-eqb c.behind.result 1 c.if-behind-eq1.true)

pub returns : goal.returns
returns c =
    let a = c.args in
    let long : 8 ≤ length a.p.now.s.now = omega arith in
    c.list.ensures ∙ rw (← (c.behind.ensures ∙ there a.p.now.s.now a.p.now.x long a.p.now.within.2 25 1 (omega arith)), ne_eqb c.behind.result 1 c.if-behind-eq1.false)
