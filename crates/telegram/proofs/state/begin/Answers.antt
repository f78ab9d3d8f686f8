-- `telegram::state::begin` meets its contract. Assumes nothing.
use Rattle.states.proofs.Fronting.{first_begins}
use Rattle.telegram.proofs.state.begin.Goals as goal

pub returns : goal.returns
returns c = rw (c.fresh.ensures, c.at.ensures) first_begins
