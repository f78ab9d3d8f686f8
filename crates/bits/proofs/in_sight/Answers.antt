-- `bits::in_sight` meets its contract: each test is one of the definition's. Assumes nothing.
use mathlib.Core.Path.{◌∙◌}
use native.Mathlib.Omega.{arith}
use borrow.Author.Tests.{le-leb, lt-leb}
use lib.ListN.{length}
use Rattle.bits.proofs.in_sight.Goals as goal

pub returns-then-bits-eq0 : goal.returns-then-bits-eq0
returns-then-bits-eq0 c = simp (lt-leb 1 c.args.bits (omega arith))

pub returns-then-bits-gt57 : goal.returns-then-bits-gt57
returns-then-bits-gt57 c =
    let a = c.args in
    simp (le-leb 1 a.bits (omega arith), lt-leb a.bits 57 (omega arith))

pub returns-then-s-lt8 : goal.returns-then-s-lt8
returns-then-s-lt8 c =
    let a = c.args in
    simp (le-leb 1 a.bits (omega arith), le-leb a.bits 57 (omega arith), lt-leb 8 (length a.s.now) (omega arith))

pub returns : goal.returns
returns c =
    let a = c.args in
    c.inside.ensures
    ∙ simp (le-leb 1 a.bits (omega arith), le-leb a.bits 57 (omega arith), le-leb 8 (length a.s.now) (omega arith))
