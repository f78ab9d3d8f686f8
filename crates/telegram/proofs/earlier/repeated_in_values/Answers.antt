-- `telegram::earlier::repeated_in_values` meets its contract: at a packet's Q_DIR the values before are looked over. Assumes nothing.
use Rattle.states.proofs.Directions.{repeats_not, repeats_by}
use Rattle.telegram.proofs.earlier.repeated_in_values.Goals as goal

pub directing-requires : goal.directing-requires
directing-requires c = c.requires.0

pub returns-then-not-directing : goal.returns-then-not-directing
returns-then-not-directing c = repeats_not c.args.st c.args.v _ c.directing.ensures (c.if-not-directing.true)

pub collides_in_values-requires : goal.collides_in_values-requires
collides_in_values-requires c = c.requires.1

pub returns : goal.returns
returns c = repeats_by c.args.st c.args.v _ c.directing.ensures (c.if-not-directing.false) c.collides_in_values.ensures
