-- `front::header` meets its contract: each test is one of the definition's. Assumes nothing.
use mathlib.Core.Path.{◌≡◌, sym, ◌∙◌}
use native.Mathlib.Omega.{arith}
use Rattle.bits.proofs.Fields.{taken, skipped}
use Rattle.states.proofs.Front.{front_lacking, front_other, front_above, front_double, front_whole}
use Rattle.front.proofs.header.Goals as goal

-- no 25 bits more behind those 25
pub returns-in_err-end : goal.returns-in_err-end
returns-in_err-end c =
    c.from_residual-in_err-end.ensures
    ∙ front_lacking _ _ (sym c.take.ensures ∙ c.in_ok-a.was) (sym c.skip.ensures ∙ c.in_err-end.was)

-- a rule is broken
pub returns-then-a-ne288 : goal.returns-then-a-ne288
returns-then-a-ne288 c =
    front_other _ _ (sym c.take.ensures ∙ c.in_ok-a.was) (sym c.skip.ensures ∙ c.in_ok-end.was) c.if-a-ne288.true

pub returns-then-a-pig : goal.returns-then-a-pig
returns-then-a-pig c =
    front_above _ _ (sym c.take.ensures ∙ c.in_ok-a.was) (sym c.skip.ensures ∙ c.in_ok-end.was) c.if-a-ne288.false c.if-a-pig.true

pub returns-then-a-eq3 : goal.returns-then-a-eq3
returns-then-a-eq3 c =
    front_double _ _ (sym c.take.ensures ∙ c.in_ok-a.was) (sym c.skip.ensures ∙ c.in_ok-end.was) c.if-a-ne288.false c.if-a-pig.false c.if-a-eq3.true

-- each is kept, and the packets begin at bit 50
pub returns : goal.returns
returns c =
    let f = taken _ _ _ _ _ _ (sym c.take.ensures ∙ c.in_ok-a.was) in
    let p = skipped _ _ _ _ (sym c.skip.ensures ∙ c.in_ok-end.was) in
    let e : c.in_ok-end.end.at ≡ 50 = omega (arith, p.past, f.past) in
    rw (c.fresh.ensures, e) (front_whole _ _ (sym c.take.ensures ∙ c.in_ok-a.was) (sym c.skip.ensures ∙ c.in_ok-end.was) c.if-a-ne288.false c.if-a-pig.false c.if-a-eq3.false)
