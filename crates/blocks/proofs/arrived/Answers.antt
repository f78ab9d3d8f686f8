-- `blocks::arrived` meets its contract: one law for each thing that a read can bring. Assumes nothing.
use Rattle.blocks.proofs.Stepping.{arrives_failed, arrives_none, arrives_some}
use Rattle.blocks.proofs.arrived.Goals as goal

pub returns-in_default : goal.returns-in_default
returns-in_default c = arrives_failed c.args.block.now c.args.line.now c.args.input c.args.got _ _ c.in_default.is c.stopped.ensures

pub returns-then-n-eq0 : goal.returns-then-n-eq0
returns-then-n-eq0 c = arrives_none c.args.block.now c.args.line.now c.args.input c.args.got _ c.in-Ok.is _ _ c.if-n-eq0.true c.held.ensures c.stopped-then-n-eq0.ensures

pub returns : goal.returns
returns c = arrives_some c.args.block.now c.args.line.now c.args.input c.args.got _ c.in-Ok.is _ _ c.if-n-eq0.false c.take_on.ensures
