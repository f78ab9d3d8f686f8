-- `telegram::earlier::repeated_in_bits` meets its contract: at a packet's Q_DIR the bits before are looked over. Assumes nothing.
use Rattle.states.proofs.Directions.{repeats_not, repeats_by}
use Rattle.telegram.proofs.earlier.repeated_in_bits.Goals as goal

pub returns-then-not-directing : goal.returns-then-not-directing
returns-then-not-directing c = repeats_not c.args.st c.args.v _ c.directing.ensures (c.if-not-directing.true)

pub returns : goal.returns
returns c = repeats_by c.args.st c.args.v _ c.directing.ensures (c.if-not-directing.false) c.state_collides.ensures
