-- `replies::of_bits` meets its contract: one law for each answer of packing. Assumes nothing.
use mathlib.Core.Path.{refl, sym}
use native.Mathlib.Omega.{arith}
use lib.Seq.{length-take-le}
use Rattle.queue.proofs.Joining.{joins_as}
use Rattle.replies.proofs.Packs.{bits_within, bits_normal, bits_read, bits_unpacked}
use Rattle.replies.proofs.of_bits.Goals as goal

pub slice_bounds-s-end : goal.slice_bounds-s-end
slice_bounds-s-end c = bits_within c.args.line.now _ _ _ c.args.normal c.pack.ensures (omega arith) _ c.bytes_for.result c.in-Ok.is c.bytes_for.ensures

pub slice_bounds-t-end : goal.slice_bounds-t-end
slice_bounds-t-end c =
    sym (length-take-le _ _ ((bits_within c.args.line.now _ _ _ c.args.normal c.pack.ensures (omega arith) _ c.bytes_for.result c.in-Ok.is c.bytes_for.ensures)))

pub returns-then-normal : goal.returns-then-normal
returns-then-normal c = joins_as (bits_normal c.args.line.now _ _ _ c.args.normal c.pack.ensures (omega arith) _ c.bytes_for.result c.in-Ok.is c.bytes_for.ensures c.if-normal.true) c.normalise.ensures

pub returns : goal.returns
returns c = joins_as (bits_read c.args.line.now _ _ _ c.args.normal c.pack.ensures (omega arith) _ c.bytes_for.result c.in-Ok.is c.bytes_for.ensures c.if-normal.false) c.read.ensures

pub returns-in_default : goal.returns-in_default
returns-in_default c = joins_as (bits_unpacked c.args.line.now _ _ _ c.args.normal c.pack.ensures refl _ c.in_default.is) c.no_question.ensures
