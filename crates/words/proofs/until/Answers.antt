-- `words::until` meets its contract. The loop's invariant: the place that is looked for is as far behind i as from there on it is. The measure is
-- how much of the text is left. Assumes nothing.
use mathlib.Core.Path.{refl}
use native.Mathlib.Omega.{arith}
use Rattle.words.proofs.Marks.{up_end, up_here, up_on}
use Rattle.words.proofs.until.Goals as goal

pub loop-i-init : goal.loop-i-init
loop-i-init c = refl

pub free-requires : goal.free-requires
free-requires c = omega arith

-- sixteen at once

pub overflow_add-i : goal.overflow_add-i
overflow_add-i c = omega (arith, (c.free.ensures c.if-free.true).0)

pub loop-i-smaller-then-free : goal.loop-i-smaller-then-free
loop-i-smaller-then-free c = omega (arith, (c.free.ensures c.if-free.true).0)

pub loop-i-preserved-then-free : goal.loop-i-preserved-then-free
loop-i-preserved-then-free c = omega (arith, c.loop-i.invariant, (c.free.ensures c.if-free.true).1)

-- or one

pub returns-then-text-i : goal.returns-then-text-i
returns-then-text-i c =
    let a = c.args in
    let l = c.loop-i in
    let e = up_here a.c a.text.now l.i (omega arith) c.if-text-i.true in omega (arith, l.invariant, e)

pub loop-i-preserved : goal.loop-i-preserved
loop-i-preserved c =
    let a = c.args in
    let l = c.loop-i in
    omega (arith, l.invariant, up_on a.c a.text.now l.i (omega arith) c.if-text-i.false)

pub returns : goal.returns
returns c =
    let a = c.args in
    omega (arith, c.loop-i.invariant, up_end a.c a.text.now c.loop-i.i (omega arith))
