-- `blocks::keep` meets its contract: what is put behind is as much of the part as there is room for. Assumes nothing.
use mathlib.Core.Path.{sym}
use native.Mathlib.Omega.{arith}
use lib.Seq.{length-take-le}
use Rattle.blocks.proofs.Parts.{keeps}
use Rattle.blocks.proofs.keep.Goals as goal

pub slice_bounds-append-end : goal.slice_bounds-append-end
slice_bounds-append-end c = sym (length-take-le c.lower-m.result c.args.part.now (omega arith))

pub returns : goal.returns
returns c = keeps c.args.held c.lower-m.result c.append.result c.args.line.now c.args.part.now _ (omega arith) c.lower-m.ensures c.append.ensures
