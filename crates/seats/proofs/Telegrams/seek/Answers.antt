-- `seats::Telegrams::seek` meets its contract: none that was passed has it. Assumes nothing.
use mathlib.Core.Path.{sym, ◌∙◌}
use Rattle.seats.proofs.Along.{looking_found, looking_on, looking_end}
use Rattle.seats.proofs.Telegrams.seek.Goals as goal

pub returns-then-pig-k : goal.returns-then-pig-k
returns-then-pig-k c = looking_found c.loop-n.invariant c.loop-n-test.true (sym c.pig.ensures ∙ c.if-pig-k.true)

pub loop-n-preserved : goal.loop-n-preserved
loop-n-preserved c = looking_on c.loop-n.invariant c.loop-n-test.true (λ e. c.if-pig-k.false (c.pig.ensures ∙ e)) c.behind-start.result c.behind-start.ensures

pub returns : goal.returns
returns c = looking_end c.loop-n.invariant c.loop-n-test.false
