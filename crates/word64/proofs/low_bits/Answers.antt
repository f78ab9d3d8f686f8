-- `word64::low_bits` meets its contract: a number of 64 bits has no more; of fewer, a mask of ones keeps them. Assumes nothing.
use mathlib.Core.Path.{sym}
use native.Mathlib.Nat.{lt_of_lt_of_le, mod-eq_of_lt}
use native.Mathlib.Omega.{arith}
use lib.Bits.{and_mask}
use lib.Pow.{pow_mono, pow_pos}
use Rattle.word64.proofs.Words.{one_shl}
use Rattle.word64.proofs.low_bits.Goals as goal

pub returns-then-t-gt63 : goal.returns-then-t-gt63
returns-then-t-gt63 c = sym (mod-eq_of_lt (lt_of_lt_of_le c.ranges.x.fits (pow_mono {i = 64} (omega arith))))

pub overflow_sub-result : goal.overflow_sub-result
overflow_sub-result c = rw (one_shl c.args.t (omega arith)) (pow_pos c.args.t)

pub returns : goal.returns
returns c = rw (one_shl c.args.t (omega arith)) (and_mask _ c.args.t)
