-- `short::slight` meets its contract: each test is one of the definition's. Assumes nothing.
use native.Mathlib.Omega.{arith}
use borrow.Author.Tests.{le-leb, lt-leb, lt-ltb, le-ltb}
use Rattle.short.proofs.slight.Goals as goal

pub returns-then-r-lt10 : goal.returns-then-r-lt10
returns-then-r-lt10 c = simp (lt-ltb c.args.r 10 c.if-r-lt10.true)

pub returns-then-high-v : goal.returns-then-high-v
returns-then-high-v c = simp (le-ltb c.args.r 10 c.if-r-lt10.false, lt-leb c.args.v _ c.if-high-v.true)

pub returns-then-r-lt48 : goal.returns-then-r-lt48
returns-then-r-lt48 c =
    let a = c.args in
    simp (le-ltb a.r 10 c.if-r-lt10.false, le-leb a.v _ c.if-high-v.false, lt-ltb a.r 48 c.if-r-lt48.true)

pub returns-then-r-gt51 : goal.returns-then-r-gt51
returns-then-r-gt51 c =
    let a = c.args in
    simp (le-ltb a.r 10 c.if-r-lt10.false, le-leb a.v _ c.if-high-v.false, le-ltb a.r 48 c.if-r-lt48.false, lt-leb a.r 51 (omega (arith, c.if-r-gt51.true)))

pub returns : goal.returns
returns c =
    let a = c.args in
    simp (le-ltb a.r 10 c.if-r-lt10.false, le-leb a.v _ c.if-high-v.false, le-ltb a.r 48 c.if-r-lt48.false, le-leb a.r 51 (omega arith))
