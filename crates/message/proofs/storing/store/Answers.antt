-- `message::storing::store` meets its contract: the packets of the balises that were passed are in both runs. Assumes nothing.
use Rattle.verdicts.proofs.Lines.{lineup}
use Rattle.message.proofs.Placing.{storing_first, storing_end, storing_room, storing_on}
use Rattle.message.proofs.Colliding.{line_few}
use native.Mathlib.Omega.{arith}
use Rattle.message.proofs.storing.store.Goals as goal

pub loop-k-init : goal.loop-k-init
loop-k-init c = storing_first (lineup c.args.t.now)

pub bounds-counts-k : goal.bounds-counts-k
bounds-counts-k c = omega (arith, c.requires.0.wide, line_few (lineup c.args.t.now), c.loop-k-test.true)

pub overflow_cast-k : goal.overflow_cast-k
overflow_cast-k c = omega (arith, line_few (lineup c.args.t.now), c.loop-k-test.true)

pub lay-i-requires : goal.lay-i-requires
lay-i-requires c = storing_room (lineup c.args.t.now) c.loop-k.invariant c.loop-k-test.true _ (c.requires.0.of c.loop-k.k c.loop-k-test.true) c.requires.1.0 c.requires.1.1

pub loop-k-preserved : goal.loop-k-preserved
loop-k-preserved c = storing_on (lineup c.args.t.now) c.loop-k.invariant c.loop-k-test.true _ (c.requires.0.of c.loop-k.k c.loop-k-test.true) c.lay-i.ensures

pub returns : goal.returns
returns c = storing_end (lineup c.args.t.now) c.loop-k.invariant c.loop-k-test.false
