-- `telegram::head::leading` meets its contract. Assumes nothing.
use Rattle.format.proofs.Heads.{carrier}
use Rattle.states.proofs.Heading.{led_packet, led_inner}
use Rattle.telegram.proofs.head.leading.Goals as goal

pub returns-then-st-eq0 : goal.returns-then-st-eq0
returns-then-st-eq0 c = led_packet c.args.s.now c.args.n c.args.st c.head.result c.if-st-eq0.true c.head.ensures

pub returns-then-st-eq-INNER_ROW : goal.returns-then-st-eq-INNER_ROW
returns-then-st-eq-INNER_ROW c =
    led_inner c.args.s.now c.args.n c.args.st c.inner.result c.if-st-eq0.false (carrier _ c.if-st-eq-INNER_ROW.true) c.inner.ensures
