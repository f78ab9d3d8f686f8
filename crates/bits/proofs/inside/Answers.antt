-- `bits::inside` meets its contract: each test answers one of the definition's. Assumes nothing.
use native.Mathlib.Omega.{arith}
use borrow.Author.Tests.{le-leb, lt-leb}
use lib.ListN.{length}
use Prim.Native.Nat.{◌+◌}
use Rattle.bits.proofs.Fields.{room_by_bytes}
use Rattle.bits.proofs.inside.Goals as goal

pub returns-then-width-gt64 : goal.returns-then-width-gt64
returns-then-width-gt64 c = simp (lt-leb c.args.width 64 c.if-width-gt64.true)

pub returns-then-n-at : goal.returns-then-n-at
returns-then-n-at c =
    let a = c.args in
    simp (le-leb a.width 64 (omega arith), lt-leb (a.at + a.width) a.n (omega arith))

pub returns-then-n-at-2 : goal.returns-then-n-at-2
returns-then-n-at-2 c =
    let a = c.args in
    simp (le-leb a.width 64 (omega arith), lt-leb (a.at + a.width) a.n (omega arith))

pub returns : goal.returns
returns c =
    let a = c.args in
    simp (le-leb a.width 64 (omega arith), le-leb (a.at + a.width) a.n (omega arith))
    (rw c.bytes_for.ensures (room_by_bytes a.n (length a.s.now)))
