-- `word64::fits` meets its contract: a number of 64 bits fits into 64 bits and more; into fewer, if nothing is left of it once
-- they are shifted out. Assumes nothing.
use mathlib.Core.Path.{sym}
use Prim.Native.Nat.{◌^◌}
use native.Mathlib.Nat.{lt_of_lt_of_le}
use native.Mathlib.Omega.{arith}
use borrow.Author.Tests.{lt-ltb}
use lib.Pow.{pow_mono}
use Rattle.word64.proofs.Words.{shifted_out}
use Rattle.word64.proofs.fits.Goals as goal

pub returns-then-width-gt63 : goal.returns-then-width-gt63
returns-then-width-gt63 c = sym (lt-ltb c.args.value (2 ^ c.args.width) (lt_of_lt_of_le c.ranges.value.fits (pow_mono {i = 64} (omega arith))))

pub returns : goal.returns
returns c = shifted_out c.args.value c.args.width
