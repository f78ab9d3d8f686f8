-- `seats::Telegrams::tally` meets its contract: those that were passed are counted. Assumes nothing.
use mathlib.Core.Path.{◌∙◌, ap}
use mathlib.Core.Bool.{cond}
use Prim.Native.Nat.{ℕ}
use lib.Dec.{eqb}
use Rattle.seats.proofs.Along.{as_number, tallying_on, tallying_end}
use Rattle.seats.proofs.Telegrams.tally.Goals as goal

pub loop-n-preserved : goal.loop-n-preserved
loop-n-preserved c = tallying_on c.loop-n.invariant c.loop-n-test.true c.from-count.result (c.from-count.ensures ∙ as_number (eqb c.pig.result c.args.k) ∙ ap (λ x. cond {A = ℕ} (eqb x c.args.k) 1 0) c.pig.ensures) c.behind-start.result c.behind-start.ensures

pub returns : goal.returns
returns c = tallying_end c.loop-n.invariant c.loop-n-test.false
