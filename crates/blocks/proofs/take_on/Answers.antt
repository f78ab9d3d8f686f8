-- `blocks::take_on` meets its contract: one law for a line that ends in the block, and one for a line that goes on. Assumes nothing.
use mathlib.Core.Path.{sym}
use native.Mathlib.Omega.{arith}
use lib.ListN.{take, drop, length-drop}
use lib.Seq.{length-take-le}
use Rattle.words.proofs.Marks.{up_within}
use Rattle.blocks.proofs.Stepping.{takes_some, takes_rest}
use Rattle.blocks.proofs.take_on.Goals as goal

pub slice_bounds-rest-end : goal.slice_bounds-rest-end
slice_bounds-rest-end c = sym (length-take-le c.lower-to.result c.args.block.now (omega arith))

-- the line ends in what is left of the block
pub slice_bounds-keep-end : goal.slice_bounds-keep-end
slice_bounds-keep-end c =
    let block = c.args.block.now in
    let to = c.lower-to in
    let from = c.lower-from in
    let rest = take to.result block in
    omega
    (arith, c.until-e.ensures, up_within 10 (drop from.result rest), length-drop from.result rest, length-take-le to.result block (omega arith), from.ensures)

pub returns-then-e-to : goal.returns-then-e-to
returns-then-e-to c = takes_some c.args.block.now c.args.line.now c.args.input c.lower-to.result c.lower-from.result c.until-e.result c.held-h.result c.keep-kept.result _ c.lower-to.ensures c.lower-from.ensures c.until-e.ensures c.held-h.ensures c.keep-kept.ensures c.if-e-to.true

pub returns : goal.returns
returns c = takes_rest c.args.block.now c.args.line.now c.args.input c.lower-to.result c.lower-from.result c.until-e.result c.held-h.result c.keep-kept.result _ c.lower-to.ensures c.lower-from.ensures c.until-e.ensures c.held-h.ensures c.keep-kept.ensures c.if-e-to.false
