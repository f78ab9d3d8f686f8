-- Each field that the rows lead to holds the next value of the telegram in hand, and the mark is its last; the invariant `Going` says that
-- storing the values left from i on makes the run what is promised. Assumes nothing.
use mathlib.Core.Path.{refl}
use native.Mathlib.Omega.{arith}
use Rattle.states.proofs.Filling.{going_first, in_out, fills, goes_further}
use Rattle.states.proofs.Taking.{never_short}
use Rattle.telegram.proofs.reader.fill.Goals as goal

pub loop-value-init : goal.loop-value-init
loop-value-init c = rw c.at-t.ensures (going_first _ _ _ c.requires)

pub width-requires : goal.width-requires
width-requires c = c.loop-value.invariant.along.onward.tidy.inside

pub returns-in_default : goal.returns-in_default
returns-in_default c =
    let b = c in
    absurd (never_short b.loop-value.invariant.along b.width.ensures b.take.ensures c.in_default.is)

pub advance-requires : goal.advance-requires
advance-requires c =
    let b = c in
    b.loop-value.invariant.along.onward.tidy

pub returns-in_default-advance : goal.returns-in_default-advance
returns-in_default-advance c =
    let v = c in
    let b = v in
    fills b.loop-value.invariant b.width.ensures b.take.ensures v.in-Some.is
    c.advance.ensures c.in_default-advance.is

pub loop-value-preserved : goal.loop-value-preserved
loop-value-preserved c =
    let v = c in
    let b = v in
    goes_further b.loop-value.invariant b.width.ensures b.take.ensures v.in-Some.is
    c.advance.ensures c.in-Some-advance.is

-- there is room for every value
pub returns : goal.returns
returns c = absurd (omega (arith, in_out c.loop-value.invariant refl, c.loop-value-test.false))
