-- `lookback::state_collides` meets its contract: the packet's own NID_PACKET is looked for, up to where the packet begins. Assumes nothing.
use Rattle.lookback.proofs.state_collides.Goals as goal

pub returns : goal.returns
returns c = c.collides_in_bits.ensures
