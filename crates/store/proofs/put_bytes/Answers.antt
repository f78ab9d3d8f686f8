-- `store::put_bytes` meets its contract. The loop's invariant: the done highest bits of the field stand at at, every other bit is
-- as it was. The measure is how many bits are left. Assumes nothing.
use mathlib.Core.Path.{◌≡◌, refl, sym}
use Prim.Native.Nat.{◌<◌, ◌+◌, ◌/◌, ◌%◌, ◌^◌}
use native.Mathlib.Omega.{arith}
use native.Mathlib.Nat.{add-zero, mod-lt, sub_self, div-one}
use lib.ListN.{length-set, take-append-drop}
use lib.Pow.{pow_pos}
use Rattle.bits.specs.Bits.{digits, bits_of}
use Rattle.bits.specs.Put.{over}
use Rattle.bits.proofs.Loops.{put_again, splice_lt}
use Rattle.store.proofs.put_bytes.Goals as goal

pub loop-done-init : goal.loop-done-init
unfolding digits
loop-done-init c =
    let a = c.args in (
      omega arith,
      refl,
      rw (add-zero a.at) (sym (take-append-drop a.at (bits_of a.out.now))),
    )

pub overflow_cast-out : goal.overflow_cast-out
overflow_cast-out c =
    let a = c.args in
    omega (arith, c.type_inv.out (a.at / 8 + (a.at % 8 + c.loop-done.done) / 8))

pub splice-requires : goal.splice-requires
splice-requires c = (omega arith, rw c.low_bits.ensures (mod-lt _ (pow_pos c.lower-t.result)))

pub overflow_cast-out-in-loop-done : goal.overflow_cast-out-in-loop-done
overflow_cast-out-in-loop-done c =
    let written : c.splice.result < 2 ^ 8 = let t = c.lower-t.result in
    rw c.splice.ensures
    (splice_lt 8 _ c.low_bits.result t _ (c.slice_known-in-loop-done-1.given _).fits (omega arith)
    (rw c.low_bits.ensures (mod-lt _ (pow_pos t)))) in
    record { fits = written }

pub loop-done-preserved : goal.loop-done-preserved
loop-done-preserved c =
    let a = c.args in
    let l = c.loop-done in
    let t = c.lower-t.result in
    let pos : 0 < t = omega arith in (
      omega arith,
      simp length-set l.invariant.1,
      put_again a.out.now l.out a.at a.width l.done t _ a.value c.low_bits.result c.splice.result
          (omega arith) (omega arith) pos l.invariant.1 (omega arith) l.invariant.2 c.low_bits.ensures c.splice.ensures,
    )

pub shape_of-out : goal.shape_of-out
shape_of-out c = c.loop-done.invariant.1

pub returns : goal.returns
unfolding over
returns c =
    let l = c.loop-done in
    let e : l.done ≡ c.args.width = omega arith in
    simp (e, sub_self, div-one) at l.invariant.2
