-- `message::storing::lay` meets its contract: those that were passed are in both runs. Assumes nothing.
use Rattle.message.proofs.Hops.{laying_on}
use Rattle.message.proofs.storing.lay.Goals as goal

pub loop-j-preserved : goal.loop-j-preserved
loop-j-preserved c = laying_on c.loop-j.invariant c.loop-j-test.true
