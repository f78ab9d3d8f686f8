-- `retelling::Scaled::length_whole` meets its contract. Assumes nothing.
use mathlib.Core.Path.{refl, ◌∙◌}
use Prim.Native.Nat.{◌≤◌}
use native.Mathlib.Omega.{arith}
use borrow.Author.Tests.{eq-eqb, ne_eqb}
use lib.ListN.{length}
use Rattle.told.specs.Metres.{number_in}
use Rattle.retelling.proofs.ByNumber.{distance_is}
use Rattle.metre_lists.proofs.Reading.{front}
use Rattle.retelling.proofs.Scaled.length_whole.Goals as goal

pub returns-then-behind-eq32767 : goal.returns-then-behind-eq32767
returns-then-behind-eq32767 c =
    let a = c.args in
    let long : 8 ≤ length a.self.now.s.now = omega arith in
    rw (← (c.behind.ensures ∙ front a.self.now.s.now a.d long c.look.ensures 15 (omega arith)), eq-eqb c.behind.result 32767 c.if-behind-eq32767.true) refl

pub returns : goal.returns
returns c =
    let a = c.args in
    let long : 8 ≤ length a.self.now.s.now = omega arith in
    let n = c.behind.ensures ∙ front a.self.now.s.now a.d long c.look.ensures 15 (omega arith) in
    rw (ne_eqb (number_in a.self.now.s.now 15 a.d) 32767 (λ e. c.if-behind-eq32767.false (n ∙ e))) (distance_is a.self.now.s.now long c.distance_whole.ensures)
