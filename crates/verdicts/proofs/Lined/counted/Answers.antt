-- `verdicts::Lined::counted` meets its contract: the counters that were passed match, and those to come must match the last other than 255. Assumes nothing.
use mathlib.Core.Path.{sym, ◌∙◌}
use Rattle.group_laws.proofs.Lining.{line_counter, counting_first, counting_never, counting_apart, counting_on, counting_end}
use Rattle.verdicts.proofs.Lines.{lineup}
use Rattle.verdicts.proofs.Lined.counted.Goals as goal

pub loop-k-init : goal.loop-k-init
loop-k-init c = counting_first (lineup c.args.self.now)

pub returns-then-c-eq-NEVER : goal.returns-then-c-eq-NEVER
returns-then-c-eq-NEVER c = let l = lineup c.args.self.now in counting_never l c.loop-k.invariant c.loop-k-test.true c.counter-c.result (c.counter-c.ensures ∙ line_counter l c.loop-k.k c.loop-k-test.true) c.if-c-eq-NEVER.true

pub returns-then-not-counters_match : goal.returns-then-not-counters_match
returns-then-not-counters_match c = let l = lineup c.args.self.now in counting_apart l c.loop-k.invariant c.loop-k-test.true c.counter-c.result (c.counter-c.ensures ∙ line_counter l c.loop-k.k c.loop-k-test.true) c.if-c-eq-NEVER.false (sym c.counters_match.ensures ∙ c.if-not-counters_match.true)

pub loop-k-preserved : goal.loop-k-preserved
loop-k-preserved c = let l = lineup c.args.self.now in counting_on l c.loop-k.invariant c.loop-k-test.true c.counter-c.result (c.counter-c.ensures ∙ line_counter l c.loop-k.k c.loop-k-test.true) c.if-c-eq-NEVER.false (sym c.counters_match.ensures ∙ c.if-not-counters_match.false) c.latest-seen.result c.latest-seen.ensures

pub returns : goal.returns
returns c = counting_end (lineup c.args.self.now) c.loop-k.invariant c.loop-k-test.false
