-- `message::passed::collided` meets its contract: no packet of the balises that were passed collides, the table has them all, and counts how many each has. Assumes nothing.
use Rattle.std.proofs.lemmas.Result.{err_from_is_err_and}
use Rattle.verdicts.proofs.Lines.{lineup}
use Rattle.message.proofs.Colliding.{gathering_first, gathering_end, gathering_hit, gathering_on, pass_room, line_few}
use native.Mathlib.Omega.{arith}
use Rattle.message.proofs.passed.collided.Goals as goal

pub loop-k-init : goal.loop-k-init
loop-k-init c = gathering_first (lineup c.args.t.now) _ _ c.requires.0 c.requires.1

pub pass-requires : goal.pass-requires
pass-requires c = pass_room (lineup c.args.t.now) c.loop-k.invariant c.loop-k-test.true c.balise_at-b.result c.balise_at-b.ensures

pub returns-in_err-counts : goal.returns-in_err-counts
returns-in_err-counts c =
    let p = err_from_is_err_and c.from_residual.result c.from_residual.ensures.1 in
    rw (p.1, p.2) (gathering_hit (lineup c.args.t.now) c.loop-k.invariant c.loop-k-test.true c.balise_at-b.result c.balise_at-b.ensures c.pass.ensures _ _ c.in_err-counts.was)

pub bounds-counts-k : goal.bounds-counts-k
bounds-counts-k c = omega (arith, c.loop-k.invariant.wide, line_few (lineup c.args.t.now), c.loop-k-test.true)

pub loop-k-preserved : goal.loop-k-preserved
loop-k-preserved c = gathering_on (lineup c.args.t.now) c.loop-k.invariant c.loop-k-test.true c.balise_at-b.result c.balise_at-b.ensures c.pass.ensures _ c.in_ok-counts.was

pub returns : goal.returns
returns c = gathering_end (lineup c.args.t.now) c.loop-k.invariant c.loop-k-test.false
