-- `lookback::collides_in_bits` meets its contract: it is the slow look. Assumes nothing.
use Rattle.lookback.proofs.collides_in_bits.Goals as goal

pub returns : goal.returns
returns c = c.collides_slowly.ensures
