-- Each field that the rows lead to has the next value of the telegram in hand, and the mark is its last; the invariant `Naming` says that
-- storing the numbers of the fields left from i on makes the run what is promised. Assumes
-- nothing.
use native.Mathlib.Omega.{arith}
use lib.ListN.{length-set}
use Rattle.states.proofs.Labelling.{naming_first, in_out, labels, names_on}
use Rattle.states.proofs.Valued.{in_values}
use Rattle.telegram.proofs.labels.name.Goals as goal

pub loop-i-init : goal.loop-i-init
loop-i-init c = rw c.at-t.ensures (naming_first _ _ c.requires)

pub number-requires : goal.number-requires
number-requires c =
    let b = c in
    (b.loop-i.invariant.valued.onward.tidy.inside, b.fields-numbers.ensures)

pub bounds-fields-i : goal.bounds-fields-i
bounds-fields-i c = in_out c.loop-i.invariant

pub advance-requires : goal.advance-requires
advance-requires c =
    let b = c in
    let d = b.loop-i.invariant.valued.onward.tidy in
    d

pub shape_of-fields-in_default : goal.shape_of-fields-in_default
shape_of-fields-in_default c =
    let b = c in
    simp length-set b.loop-i.invariant.size

pub returns-in_default : goal.returns-in_default
returns-in_default c =
    let a = c in
    let n = a in
    labels n.loop-i.invariant n.number.ensures a.advance.ensures c.in_default.is

pub loop-i-preserved : goal.loop-i-preserved
loop-i-preserved c =
    let a = c in
    let n = a in
    names_on n.loop-i.invariant n.number.ensures a.advance.ensures c.in-Some.is

-- the list does not end before the mark
pub returns : goal.returns
returns c = absurd (omega (arith, in_values c.loop-i.invariant.valued, c.loop-i-test.false))
