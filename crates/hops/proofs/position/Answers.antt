-- `hops::position` meets its contract. Assumes nothing.
use Rattle.hops.proofs.Tests.{position_is}
use Rattle.hops.proofs.position.Goals as goal

pub returns : goal.returns
returns c = position_is c.args.w c.behind-c.result c.behind-c.ensures
