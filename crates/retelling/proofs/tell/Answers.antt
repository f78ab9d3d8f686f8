-- `retelling::tell` meets its contract. Assumes nothing.
use mathlib.Core.Path.{◌≡◌, sym, ap, ◌∙◌}
use Prim.Native.Nat.{◌+◌, ◌≤◌}
use native.Mathlib.Omega.{arith}
use lib.ListN.{length}
use Rattle.distance.specs.Distance.{number_of}
use lib.Dec.{eqb}
use mathlib.Core.Logic.{inl, inr}
use Rattle.told.specs.Metres.{number_in}
use Rattle.retelling.specs.Retold.{scale_bit}
use Rattle.retelling.proofs.ByNumber.{scale_number, scale_not, scale_near, not_metres, kind_idle}
use Rattle.metre_lists.proofs.Reading.{front, there, then_picked, else_picked}
use Rattle.retelling.proofs.tell.Goals.{then-id-eq-ID, else-id-eq-ID}
use Rattle.retelling.proofs.tell.Goals as goal

pub returns-in_default : goal.returns-in_default
returns-in_default c =
    let a = c.args in
    let long : 8 ≤ length a.p.now.s.now = omega arith in
    let i = c.behind-id.ensures ∙ front a.p.now.s.now a.p.now.x long a.p.now.within.2 8 (omega arith) in
    let v = number_in a.p.now.s.now 8 a.p.now.x in
    let p : c.if-id-eq-ID.at ≡ scale_bit a.p.now.s.now a.p.now.x =
    elim c.if-id-eq-ID.branch [ then-id-eq-ID w ↦ then_picked v 44 47 23 i w.if-id-eq-ID.true w.at-is | else-id-eq-ID w ↦ else_picked v 44 47 23 i w.if-id-eq-ID.false w.at-is ] in
    let near : c.if-id-eq-ID.at + 2 ≤ 57 = rw p (scale_near (eqb (number_in a.p.now.s.now 8 a.p.now.x) 44)) in
    let q : c.behind.result ≡ number_in a.p.now.s.now 2 (a.p.now.x + scale_bit a.p.now.s.now a.p.now.x) = rw p at (c.behind.ensures ∙ there a.p.now.s.now a.p.now.x long a.p.now.within.2 c.if-id-eq-ID.at 2 near) in
    kind_idle a.p.now.s.now a.p.now.x a.out.now (number_in a.p.now.s.now 8 a.p.now.x) (inr (rw q at (scale_not c.behind.result (sym c.of.ensures ∙ c.in_default.is))))

pub kind-requires : goal.kind-requires
kind-requires c =
    let a = c.args in
    let long : 8 ≤ length a.p.now.s.now = omega arith in
    let i = c.behind-id.ensures ∙ front a.p.now.s.now a.p.now.x long a.p.now.within.2 8 (omega arith) in
    let v = number_in a.p.now.s.now 8 a.p.now.x in
    let p : c.if-id-eq-ID.at ≡ scale_bit a.p.now.s.now a.p.now.x =
    elim c.if-id-eq-ID.branch [ then-id-eq-ID w ↦ then_picked v 44 47 23 i w.if-id-eq-ID.true w.at-is | else-id-eq-ID w ↦ else_picked v 44 47 23 i w.if-id-eq-ID.false w.at-is ] in
    let near : c.if-id-eq-ID.at + 2 ≤ 57 = rw p (scale_near (eqb (number_in a.p.now.s.now 8 a.p.now.x) 44)) in
    let q : c.behind.result ≡ number_in a.p.now.s.now 2 (a.p.now.x + scale_bit a.p.now.s.now a.p.now.x) = rw p at (c.behind.ensures ∙ there a.p.now.s.now a.p.now.x long a.p.now.within.2 c.if-id-eq-ID.at 2 near) in
    let k = scale_number c.behind.result _ (sym c.of.ensures ∙ c.in-Some.is) in
    (omega arith, (sym q ∙ k, not_metres c.in-Tenths.is))

pub returns-in-Metres : goal.returns-in-Metres
returns-in-Metres c =
    let a = c.args in
    let long : 8 ≤ length a.p.now.s.now = omega arith in
    let i = c.behind-id.ensures ∙ front a.p.now.s.now a.p.now.x long a.p.now.within.2 8 (omega arith) in
    let v = number_in a.p.now.s.now 8 a.p.now.x in
    let p : c.if-id-eq-ID.at ≡ scale_bit a.p.now.s.now a.p.now.x =
    elim c.if-id-eq-ID.branch [ then-id-eq-ID w ↦ then_picked v 44 47 23 i w.if-id-eq-ID.true w.at-is | else-id-eq-ID w ↦ else_picked v 44 47 23 i w.if-id-eq-ID.false w.at-is ] in
    let near : c.if-id-eq-ID.at + 2 ≤ 57 = rw p (scale_near (eqb (number_in a.p.now.s.now 8 a.p.now.x) 44)) in
    let q : c.behind.result ≡ number_in a.p.now.s.now 2 (a.p.now.x + scale_bit a.p.now.s.now a.p.now.x) = rw p at (c.behind.ensures ∙ there a.p.now.s.now a.p.now.x long a.p.now.within.2 c.if-id-eq-ID.at 2 near) in
    let k = scale_number c.behind.result _ (sym c.of.ensures ∙ c.in-Some.is) in
    kind_idle a.p.now.s.now a.p.now.x a.out.now (number_in a.p.now.s.now 8 a.p.now.x) (inl (sym q ∙ k ∙ ap number_of c.in-Metres.is))
