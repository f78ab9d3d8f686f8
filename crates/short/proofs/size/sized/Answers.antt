-- `short::sized` meets its contract: each test is one of the definition's. Assumes nothing.
use native.Mathlib.Omega.{arith}
use borrow.Author.Tests.{le-leb, lt-leb}
use Rattle.short.proofs.size.sized.Goals as goal

pub returns-then-n-lt58 : goal.returns-then-n-lt58
returns-then-n-lt58 c = let a = c.args in simp (lt-leb 58 a.n (omega (arith, c.if-n-lt58.true)))

pub returns-then-n-gt830 : goal.returns-then-n-gt830
returns-then-n-gt830 c = let a = c.args in simp (le-leb 58 a.n (omega (arith, c.if-n-gt830.true)), lt-leb a.n 830 (omega (arith, c.if-n-gt830.true)))

pub returns : goal.returns
returns c = let a = c.args in simp (le-leb 58 a.n (omega arith), le-leb a.n 830 (omega arith), c.bytes_for.ensures)
