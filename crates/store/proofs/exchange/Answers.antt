-- `store::exchange` meets its contract: the part that is taken away is what the new one takes the place of. Assumes nothing.
use Prim.Native.Nat.{◌+◌, ◌*◌, ◌^◌, ◌≤◌, ◌<◌}
use native.Mathlib.Omega.{arith}
use lib.Pow.{pow_mono, shl_lt}
use Rattle.store.proofs.Exchanged.{old_moved, new_moved, old_under, exchanged}
use Rattle.store.proofs.exchange.Goals as goal

pub overflow_sub-result : goal.overflow_sub-result
overflow_sub-result c =
    let a = c.args in
    let p = c.requires in
    rw (c.low_bits-old.ensures, old_moved a.w a.x a.t a.low p.2 (omega arith)) (old_under a.w a.x a.t a.low p.2 (omega arith))

pub overflow_add-result : goal.overflow_add-result
overflow_add-result c =
    let a = c.args in
    let p = c.requires in
    let m = new_moved a.w a.x a.t a.low p.2 (omega arith) in
    let l : a.x * 2 ^ a.low < 2 ^ (a.t + a.low) = shl_lt a.t a.low p.2 in
    let h : 2 ^ (a.t + a.low) ≤ 2 ^ 32 = pow_mono p.1 in
    omega (arith, m, l, h)

pub returns : goal.returns
returns c =
    let a = c.args in
    let p = c.requires in
    rw (c.low_bits-old.ensures, old_moved a.w a.x a.t a.low p.2 (omega arith), new_moved a.w a.x a.t a.low p.2 (omega arith))
    (exchanged a.w a.x a.t a.low p.2 (omega arith))
