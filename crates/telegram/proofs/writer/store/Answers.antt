-- Each field that the rows lead to is sent with the next value of the telegram in hand, and the mark is its last; the invariant `Laying` says
-- that storing the bits left from `at` on makes the bits what is promised. Of the last byte,
-- cleared before the first field, the bits behind the mark are 0. Assumes nothing.
use mathlib.Core.Path.{refl}
use native.Mathlib.Omega.{arith}
use Rattle.bits.proofs.Bytes.{below_known}
use Rattle.states.proofs.Runs.{low}
use Rattle.states.proofs.Storing.{bits_all, laying_first, stores, lays_on}
use Rattle.states.proofs.Valued.{in_values, value_is}
use Rattle.states.proofs.Laying.{some_bits, last_in, same_size}
use Rattle.telegram.proofs.writer.store.Goals as goal

pub overflow_sub-last : goal.overflow_sub-last
overflow_sub-last c = let s = c.requires in some_bits s.telegram (bits_all s)

pub bounds-out-last : goal.bounds-out-last
bounds-out-last c = let s = c.requires in last_in s.telegram (bits_all s) s.room

pub loop-v-init : goal.loop-v-init
loop-v-init c = rw c.at-t.ensures (laying_first c.requires)

pub width-w-requires : goal.width-w-requires
width-w-requires c = c.loop-v.invariant.valued.onward.tidy.inside

pub advance-requires : goal.advance-requires
advance-requires c =
    let b = c in
    b.loop-v.invariant.valued.onward.tidy

pub returns-in_default : goal.returns-in_default
returns-in_default c =
    let p = c in
    let b = p in
    let s = b in
    let out = s.args.out.now in
    stores b.loop-v.invariant b.width-w.ensures p.put.ensures c.advance.ensures c.in_default.is
    out (below_known 256 out (λ i. (s.slice_known-1.given i).fits)) refl

pub overflow_add-at : goal.overflow_add-at
overflow_add-at c =
    let b = c in
    omega (arith, low b.loop-v.invariant.valued.onward b.width-w.ensures)

pub loop-v-preserved : goal.loop-v-preserved
loop-v-preserved c =
    let p = c in
    let b = p in
    lays_on b.loop-v.invariant b.width-w.ensures p.put.ensures c.advance.ensures c.in-Some.is

-- the list does not end before the mark
pub returns : goal.returns
returns c = absurd (omega (arith, in_values c.loop-v.invariant.valued, c.loop-v-test.false))

-- below what is stored, so that an edit of the put is refused there
pub shape_of-out-in_default : goal.shape_of-out-in_default
shape_of-out-in_default c =
    let p = c in
    let b = p in
    let out = b.args.out.now in
    let g = b.loop-v.invariant in
    same_size g.laid g.valued.onward b.width-w.ensures (value_is g.valued) p.put.ensures out refl
