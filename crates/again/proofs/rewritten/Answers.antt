-- `again::rewritten` meets its contract: the values that were read are written as the bytes that they were read from. Assumes nothing.
use mathlib.Core.Path.{sym}
use native.Mathlib.Omega.{arith}
use lib.Seq.{length-take-le}
use Rattle.bits.proofs.Bytes.{below_known}
use Rattle.format.specs.Rules.{paper}
use Rattle.again.proofs.Twice.{no_room_to_write, read_refused, lent, rewrites}
use Rattle.again.proofs.rewritten.Goals as goal

pub returns-then-out-lt104 : goal.returns-then-out-lt104
returns-then-out-lt104 c =
    let a = c.args in
    rw c.at_once.ensures (no_room_to_write paper a.s.now a.n a.run.now a.out.now (omega (arith, c.if-out-lt104.true)))

pub returns-in_default : goal.returns-in_default
returns-in_default c =
    let a = c.args in
    read_refused paper a.s.now a.n a.run.now a.out.now _ (omega arith) c.read-a.ensures c.in_default.is

pub returns : goal.returns
returns c =
    let a = c.args in
    rewrites paper a.s.now a.n a.run.now a.out.now _ (omega arith) c.read-a.ensures c.in-Ok.is
    (below_known 256 a.s.now (λ i. (c.type_inv.s i).fits))
    c.write.ensures

-- that the parts that are lent lie inside what they are parts of; below the answers, so that an edit of a part is refused at an answer

pub slice_bounds-write-end : goal.slice_bounds-write-end
slice_bounds-write-end c =
    let a = c.args in
    lent paper a.s.now a.n a.run.now a.out.now _ (omega arith) c.read-a.ensures c.in-Ok.is

pub slice_bounds-write-end-2 : goal.slice_bounds-write-end-2
slice_bounds-write-end-2 c =
    let a = c.args in
    sym (length-take-le _ _ (lent paper a.s.now a.n a.run.now a.out.now _ (omega arith) c.read-a.ensures c.in-Ok.is))
