-- `spans::scaled` meets its contract. Assumes nothing.
use mathlib.Core.Path.{◌≡◌, ◌∙◌}
use native.Mathlib.Omega.{arith}
use Rattle.std.proofs.Common.{rules}
use Rattle.spans.specs.Spans.{or_zero}
use Rattle.spans.proofs.Tests.{scale_over, scale_kept}
use Rattle.spans.proofs.scaled.Goals as goal

pub returns-then-q-gt2 : goal.returns-then-q-gt2
returns-then-q-gt2 c = let a = c.args in c.plain.ensures ∙ scale_over a.q (or_zero a.values) (omega arith)

pub returns : goal.returns
returns c =
    let a = c.args in
    let e : c.unwrap_or.result ≡ or_zero a.values = search rules in
    rw e (scale_kept a.q (or_zero a.values) (omega arith))
