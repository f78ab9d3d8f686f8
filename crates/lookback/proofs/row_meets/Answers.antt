-- `lookback::row_meets` meets its contract: one test after the other. Assumes nothing.
use borrow.Author.Tests.{eq-eqb, ne_eqb}
use Rattle.lookback.proofs.row_meets.Goals as goal

pub returns-then-a-ne-END : goal.returns-then-a-ne-END
returns-then-a-ne-END c = simp (ne_eqb c.args.a 0 c.if-a-ne-END.true)

pub returns : goal.returns
returns c = simp (eq-eqb c.args.a 0 c.if-a-ne-END.false) c.meets.ensures
