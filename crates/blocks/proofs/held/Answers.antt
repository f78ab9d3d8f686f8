-- `blocks::held` meets its contract: none behind a whole line, and never more than the line has. Assumes nothing.
use Rattle.blocks.proofs.Stepping.{held_none, held_some}
use Rattle.blocks.proofs.held.Goals as goal

pub returns-then-input : goal.returns-then-input
returns-then-input c = held_none c.args.line.now c.args.input c.if-input.true

pub returns : goal.returns
returns c = held_some c.args.line.now c.args.input c.if-input.false c.lower.result c.lower.ensures
