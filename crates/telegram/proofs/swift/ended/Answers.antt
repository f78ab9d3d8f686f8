-- `telegram::swift::ended` meets its contract: before n or without the end mark it stands where it stood. Assumes nothing.
use mathlib.Core.Logic.{inr}
use mathlib.Core.Path.{sym, ◌∙◌}
use native.Mathlib.Omega.{arith}
use Rattle.bits.proofs.Sight.{sighted}
use Rattle.passing.proofs.Sweeping.{edge_over, edge_few, edge_within}
use Rattle.telegram.proofs.swift.ended.Goals as goal

pub returns-in_default : goal.returns-in_default
returns-in_default c = inr c.requires.0

pub returns-then-next-n : goal.returns-then-next-n
returns-then-next-n c = inr c.requires.0

pub returns-then-behind-ne-LAST : goal.returns-then-behind-ne-LAST
returns-then-behind-ne-LAST c = inr c.requires.0

pub overflow_add-result : goal.overflow_add-result
overflow_add-result c = omega (arith, edge_few c.requires.0, edge_within c.requires.0, c.requires.0.stood.low)

pub returns : goal.returns
returns c =
    let a = c.args in
    let p = c.requires in
    let i = sighted a.s.now a.n 8 a.c.at _ _ (sym c.ahead.ensures ∙ c.in-Some.is) in
    let e = sym i.past ∙ c.if-next-n.false in (
      edge_over p.0 i.ahead e (sym c.behind.ensures ∙ c.if-behind-ne-LAST.false),
      λ h. record { last = a.c.at; ends = e; hopped = p.1 h },
    )
