-- `short::unread` meets its contract: each test is one of the definition's. Assumes nothing.
use borrow.Author.Tests.{eq-eqb, ne_eqb}
use Rattle.short.proofs.unread.Goals as goal

pub returns-then-a-ne-SEND : goal.returns-then-a-ne-SEND
returns-then-a-ne-SEND c = simp (ne_eqb c.args.a 2 c.if-a-ne-SEND.true)

pub returns : goal.returns
returns c = simp (eq-eqb c.args.a 2 c.if-a-ne-SEND.false)
