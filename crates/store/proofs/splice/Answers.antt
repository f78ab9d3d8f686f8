-- `store::splice` meets its contract: shifts and masks put three parts of a number together. Assumes nothing.
use native.Mathlib.Omega.{arith}
use lib.Pow.{pow_pos}
use Rattle.word64.proofs.Words.{one_shl}
use Rattle.bits.proofs.Loops.{splice_is}
use Rattle.store.proofs.splice.Goals as goal

pub overflow_sub-result : goal.overflow_sub-result
overflow_sub-result c = rw (one_shl c.args.low (omega arith)) (pow_pos c.args.low)

pub returns : goal.returns
returns c =
    let a = c.args in
    splice_is 64 a.w a.x a.t a.low c.ranges.w.fits (omega arith) c.requires.1 (omega arith) (omega arith)
