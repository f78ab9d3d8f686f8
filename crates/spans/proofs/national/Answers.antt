-- `spans::national` meets its contract. Assumes nothing.
use mathlib.Core.Path.{◌∙◌}
use native.Mathlib.Omega.{arith}
use Rattle.spans.proofs.Tests.{inner_turned, inner_long, inner_kept}
use Rattle.spans.proofs.national.Goals as goal

pub returns-then-behind : goal.returns-then-behind
returns-then-behind c =
    let a = c.args in
    c.plain.ensures ∙ inner_turned a.s.now a.n a.end a.start.at a.long a.w c.behind.result c.behind-2.result c.behind.ensures c.behind-2.ensures c.if-behind.true

pub returns-then-long-behind : goal.returns-then-long-behind
returns-then-long-behind c =
    let a = c.args in
    c.plain-then-long-behind.ensures
    ∙ inner_long a.s.now a.n a.end a.start.at a.long a.w c.behind.result c.behind-2.result c.behind.ensures c.behind-2.ensures (omega arith)
    c.behind-3.result c.behind-3.ensures c.if-long-behind.true

pub returns : goal.returns
returns c =
    let a = c.args in
    c.user.ensures
    ∙ inner_kept a.s.now a.n a.end a.start.at a.long a.w c.behind.result c.behind-2.result c.behind.ensures c.behind-2.ensures (omega arith)
    c.behind-3.result c.behind-3.ensures (omega arith)
