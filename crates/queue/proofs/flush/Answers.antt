-- `queue::flush` meets its contract: what it writes lies within the array. Assumes nothing.
use mathlib.Core.Path.{sym, ◌∙◌}
use mathlib.Core.Bool.{true, false, or-true, or-false}
use native.Mathlib.Omega.{arith}
use lib.Seq.{length-take-le}
use Rattle.queue.proofs.Joining.{flushed_none, flushed_some}
use Rattle.queue.proofs.flush.Goals as goal

pub returns-then-n-eq0 : goal.returns-then-n-eq0
returns-then-n-eq0 c = flushed_none c.args.q c.args.out.now (omega arith)

pub slice_bounds-write_all-end : goal.slice_bounds-write_all-end
slice_bounds-write_all-end c = sym (length-take-le c.lower-n.result c.args.out.now (omega arith))

pub returns-then-wrote : goal.returns-then-wrote
returns-then-wrote c = flushed_some c.args.q c.args.out.now (λ e. c.if-n-eq0.false (c.lower-n.ensures ∙ e)) false (sym (or-false c.args.q.lost))

pub returns-else-wrote : goal.returns-else-wrote
returns-else-wrote c = flushed_some c.args.q c.args.out.now (λ e. c.if-n-eq0.false (c.lower-n.ensures ∙ e)) true (sym (or-true c.args.q.lost))
