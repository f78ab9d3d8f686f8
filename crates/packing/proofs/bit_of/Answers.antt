-- `packing::bit_of` meets its contract: 1 for the character 1, and 0 for any other. Assumes nothing.
use borrow.Author.Tests.{eq-eqb, ne_eqb}
use Rattle.packing.proofs.bit_of.Goals as goal

pub returns-then-c-eq49 : goal.returns-then-c-eq49
returns-then-c-eq49 c = simp (eq-eqb c.args.c 49 c.if-c-eq49.true)

pub returns-else-c-eq49 : goal.returns-else-c-eq49
returns-else-c-eq49 c = simp (ne_eqb c.args.c 49 c.if-c-eq49.false)
