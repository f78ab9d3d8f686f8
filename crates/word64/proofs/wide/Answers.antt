-- `word64::wide` meets its contract: each test answers one of the promise's. Assumes nothing.
use native.Mathlib.Omega.{arith}
use borrow.Author.Tests.{lt-ltb, le-ltb}
use Rattle.word64.proofs.wide.Goals as goal

pub returns-then-width-gt25 : goal.returns-then-width-gt25
returns-then-width-gt25 c = simp (lt-ltb 25 c.args.width (omega arith))

pub returns : goal.returns
returns c = simp (le-ltb 25 c.args.width (omega arith))
