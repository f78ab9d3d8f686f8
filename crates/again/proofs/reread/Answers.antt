-- `again::reread` meets its contract: the bytes that were written are read as the values that they were written from. Assumes nothing.
use mathlib.Core.Path.{sym}
use native.Mathlib.Omega.{arith}
use lib.Seq.{length-take-le}
use Rattle.format.specs.Rules.{paper}
use Rattle.again.proofs.Twice.{no_room_to_read, write_refused, lent_bytes, rereads}
use Rattle.again.proofs.reread.Goals as goal

pub returns-then-run-lt830 : goal.returns-then-run-lt830
returns-then-run-lt830 c =
    let a = c.args in
    rw c.at_once.ensures (no_room_to_read paper a.values.now a.out.now a.run.now (omega (arith, c.if-run-lt830.true)))

pub returns-in_default : goal.returns-in_default
returns-in_default c =
    let a = c.args in
    write_refused paper a.values.now a.out.now a.run.now _ (omega arith) c.write-a.ensures c.in_default.is

pub returns : goal.returns
returns c =
    let a = c.args in
    rereads paper a.values.now a.out.now a.run.now _ (omega arith) c.write-a.ensures c.in-Ok.is
    c.bytes_for.ensures
    c.read.ensures

-- that the parts that are lent lie inside what they are parts of; below the answers, so that an edit of a part is refused at an answer

pub slice_bounds-read-end : goal.slice_bounds-read-end
slice_bounds-read-end c =
    let a = c.args in
    rw c.bytes_for.ensures
    (lent_bytes paper a.values.now a.out.now a.run.now _ (omega arith) c.write-a.ensures c.in-Ok.is)

pub slice_bounds-read-end-2 : goal.slice_bounds-read-end-2
slice_bounds-read-end-2 c =
    let a = c.args in
    sym (length-take-le _ _
    (rw c.bytes_for.ensures
    (lent_bytes paper a.values.now a.out.now a.run.now _ (omega arith) c.write-a.ensures c.in-Ok.is)))
