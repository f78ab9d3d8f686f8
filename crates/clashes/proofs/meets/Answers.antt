-- `clashes::meets` meets its contract: one test after the other. Assumes nothing.
use native.Mathlib.Omega.{arith}
use borrow.Author.Tests.{eq-eqb, ne_eqb}
use Rattle.clashes.proofs.meets.Goals as goal

pub returns-then-id-name : goal.returns-then-id-name
returns-then-id-name c = simp (eq-eqb c.args.id c.args.name (omega (arith, c.if-id-name.true))) c.directions_collide.ensures

pub returns-else-id-name : goal.returns-else-id-name
returns-else-id-name c = simp (ne_eqb c.args.id c.args.name (λ e. omega (arith, c.if-id-name.false)))
