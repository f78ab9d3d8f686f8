-- `spans::packet` meets its contract. Assumes nothing.
use mathlib.Core.Path.{sym, ◌∙◌}
use native.Mathlib.Omega.{arith}
use Rattle.bits.proofs.Fields.{skipped}
use Rattle.spans.proofs.Tests.{packet_over, packet_lacking, packet_turned, packet_kind}
use Rattle.spans.proofs.packet.Goals as goal

pub returns-then-n-gt830 : goal.returns-then-n-gt830
returns-then-n-gt830 c = let a = c.args in c.plain.ensures ∙ packet_over a.s.now a.n a.start.at a.long a.w (omega arith)

pub returns-in_default : goal.returns-in_default
returns-in_default c =
    let a = c.args in
    c.plain-in_default.ensures ∙ packet_lacking a.s.now a.n a.start.at a.long a.w (omega arith) (sym c.skip.ensures ∙ c.in_default.is)

pub returns-then-behind-gt2 : goal.returns-then-behind-gt2
returns-then-behind-gt2 c =
    let a = c.args in
    c.plain-then-behind-gt2.ensures ∙ packet_turned a.s.now a.n a.start.at a.long a.w (omega arith) (sym c.skip.ensures ∙ c.in-Some.is) c.behind.result c.behind.ensures (omega arith)

pub kind-requires : goal.kind-requires
kind-requires c =
    let a = c.args in
    let p = skipped a.n a.long a.start.at _ (sym c.skip.ensures ∙ c.in-Some.is) in
    (omega arith, omega (arith, p.within))

pub returns : goal.returns
returns c =
    let a = c.args in
    c.kind.ensures ∙ packet_kind a.s.now a.n a.start.at a.long a.w (omega arith) (sym c.skip.ensures ∙ c.in-Some.is) c.behind.result c.behind.ensures (omega arith)
