-- `bodies::text` meets its contract. Assumes nothing.
use mathlib.Core.Path.{◌≡◌, refl, sym, ap, ◌∙◌}
use Prim.Native.Nat.{◌+◌, ◌/◌}
use native.Mathlib.Omega.{arith}
use Rattle.hops.specs.Hops.{counted, level_in}
use Rattle.hops.proofs.Bounds.{level_small}
use Rattle.hops.proofs.Kept.{counted_is, counted_none, counted_few}
use Rattle.bodies.proofs.Tests.{class_over, text_lacking, level_short, level_none, second_lacking, second_short, second_seen, text_none}
use Rattle.bodies.proofs.text.Goals as goal

pub returns-then-class-gt1 : goal.returns-then-class-gt1
returns-then-class-gt1 c = let a = c.args in ap counted (class_over a.s.now a.n a.end a.start.at a.class (omega arith))

pub returns-in_err-first : goal.returns-in_err-first
returns-in_err-first c =
    let a = c.args in
    c.from_residual.ensures ∙ ap counted (text_lacking a.s.now a.n a.end a.start.at a.class (omega arith) (sym c.skip.ensures ∙ c.in_err-first.was))

pub returns-in_err-x : goal.returns-in_err-x
returns-in_err-x c =
    let a = c.args in
    c.from_residual-in_err-x.ensures
    ∙ ap counted (level_short a.s.now a.n a.end a.start.at a.class (omega arith) (sym c.skip.ensures ∙ c.in_ok-first.was) (sym c.ahead.ensures ∙ c.in_err-x.was))

pub returns-in_err-bits : goal.returns-in_err-bits
returns-in_err-bits c =
    let a = c.args in
    c.from_residual-in_err-bits.ensures
    ∙ ap counted
    (level_none a.s.now a.n a.end a.start.at a.class (omega arith) (sym c.skip.ensures ∙ c.in_ok-first.was) (sym c.ahead.ensures ∙ c.in_ok-x.was) (level_in 5 c.in_ok-x.x) refl
    (counted_none _ (sym c.level.ensures ∙ c.in_err-bits.was)))

pub overflow_add-bits : goal.overflow_add-bits
overflow_add-bits c =
    let is = sym c.level.ensures ∙ c.in_ok-bits.was in
    let few = counted_few (level_in 5 c.in_ok-x.x) c.in_ok-bits.bits 11 is (level_small 5 c.in_ok-x.x) in
    omega (arith, few.1)

pub returns-in_err-second : goal.returns-in_err-second
returns-in_err-second c =
    let a = c.args in
    let is = sym c.level.ensures ∙ c.in_ok-bits.was in
    let few = counted_few (level_in 5 c.in_ok-x.x) c.in_ok-bits.bits 11 is (level_small 5 c.in_ok-x.x) in
    c.from_residual-in_err-second.ensures
    ∙ ap counted
    (second_lacking a.s.now a.n a.end a.start.at a.class (omega arith) (sym c.skip.ensures ∙ c.in_ok-first.was) (sym c.ahead.ensures ∙ c.in_ok-x.was)
    c.in_ok-bits.bits (sym (counted_is _ _ is)) (λ z. absurd (omega (arith, few.0, z))) (sym c.skip-2.ensures ∙ c.in_err-second.was))

pub returns-in_err-y : goal.returns-in_err-y
returns-in_err-y c =
    let a = c.args in
    let is = sym c.level.ensures ∙ c.in_ok-bits.was in
    let few = counted_few (level_in 5 c.in_ok-x.x) c.in_ok-bits.bits 11 is (level_small 5 c.in_ok-x.x) in
    c.from_residual-in_err-y.ensures
    ∙ ap counted
    (second_short a.s.now a.n a.end a.start.at a.class (omega arith) (sym c.skip.ensures ∙ c.in_ok-first.was) (sym c.ahead.ensures ∙ c.in_ok-x.was)
    c.in_ok-bits.bits (sym (counted_is _ _ is)) (λ z. absurd (omega (arith, few.0, z))) (sym c.skip-2.ensures ∙ c.in_ok-second.was) (sym c.ahead-2.ensures ∙ c.in_err-y.was))

pub returns-in_err-level : goal.returns-in_err-level
returns-in_err-level c =
    let a = c.args in
    let is = sym c.level.ensures ∙ c.in_ok-bits.was in
    let few = counted_few (level_in 5 c.in_ok-x.x) c.in_ok-bits.bits 11 is (level_small 5 c.in_ok-x.x) in
    c.from_residual-in_err-level.ensures
    ∙ ap counted
    (text_none a.end c.in_ok-second.second.at (15 + c.in_ok-bits.bits / 8) (level_in 5 c.in_ok-y.y) c.in_ok-y.y
    (counted_none _ (sym c.level-2.ensures ∙ c.in_err-level.was))
    ∙ second_seen a.s.now a.n a.end a.start.at a.class (omega arith) (sym c.skip.ensures ∙ c.in_ok-first.was) (sym c.ahead.ensures ∙ c.in_ok-x.was)
    c.in_ok-bits.bits (sym (counted_is _ _ is)) (λ z. absurd (omega (arith, few.0, z))) (sym c.skip-2.ensures ∙ c.in_ok-second.was) (sym c.ahead-2.ensures ∙ c.in_ok-y.was))

pub characters-requires : goal.characters-requires
characters-requires c =
    let is = sym c.level.ensures ∙ c.in_ok-bits.was in
    let few = counted_few (level_in 5 c.in_ok-x.x) c.in_ok-bits.bits 11 is (level_small 5 c.in_ok-x.x) in
    let second = counted_few (level_in 5 c.in_ok-y.y) c.in_ok-level.field-0 11 (sym c.level-2.ensures ∙ c.in_ok-level.was) (level_small 5 c.in_ok-y.y) in
    (omega arith, omega (arith, few.1), second.0, second.1)

pub returns : goal.returns
returns c =
    let a = c.args in
    let is = sym c.level.ensures ∙ c.in_ok-bits.was in
    let few = counted_few (level_in 5 c.in_ok-x.x) c.in_ok-bits.bits 11 is (level_small 5 c.in_ok-x.x) in
    let second : level_in 5 c.in_ok-y.y ≡ c.in_ok-level.field-0 = counted_is _ _ (sym c.level-2.ensures ∙ c.in_ok-level.was) in
    c.characters.ensures
    ∙ rw (← second)
    (ap counted
    (second_seen a.s.now a.n a.end a.start.at a.class (omega (arith, c.if-class-gt1.false)) (sym c.skip.ensures ∙ c.in_ok-first.was) (sym c.ahead.ensures ∙ c.in_ok-x.was)
    c.in_ok-bits.bits (sym (counted_is _ _ is)) (λ z. absurd (omega (arith, few.0, z))) (sym c.skip-2.ensures ∙ c.in_ok-second.was) (sym c.ahead-2.ensures ∙ c.in_ok-y.was)))
