-- `arrivals::check_part` meets its contract. Assumes nothing.
use Rattle.format.proofs.Numbers.{answer_is}
use Rattle.arrivals.proofs.check_part.Goals as goal

pub returns : goal.returns
returns c = answer_is _ _ c.check.ensures
