-- `group_words::measured` meets its contract: so many telegrams and bytes were counted. The measure is how many characters are left. Assumes nothing.
use Rattle.group_words.proofs.Counts.{measuring_first, measuring_many, measuring_not, measuring_few, measuring_on, measuring_end}
use Rattle.group_words.proofs.Walks.{end_inside}
use native.Mathlib.Omega.{arith}
use Rattle.group_words.proofs.measured.Goals as goal

pub loop-at-init : goal.loop-at-init
loop-at-init c = measuring_first c.args.line.now

pub returns-then-count-eq-MOST : goal.returns-then-count-eq-MOST
returns-then-count-eq-MOST c = measuring_many c.loop-at.invariant c.loop-at-test.true (omega (arith, c.if-count-eq-MOST.true, c.loop-at.invariant.few))

pub slice_bounds-bytes_in-end : goal.slice_bounds-bytes_in-end
slice_bounds-bytes_in-end c = omega (arith, end_inside c.args.line.now c.loop-at.at c.word_end-end.result c.word_end-end.ensures c.loop-at-test.true)

pub returns-in_err-total : goal.returns-in_err-total
returns-in_err-total c = rw c.from_residual.ensures (measuring_not c.loop-at.invariant c.loop-at-test.true (λ e. omega (arith, e, c.if-count-eq-MOST.false)) c.word_end-end.result c.word_end-end.ensures c.bytes_in.result c.bytes_in.ensures c.in_err-total.was)

pub overflow_add-total : goal.overflow_add-total
overflow_add-total c = omega (arith, measuring_few c.loop-at.invariant c.loop-at-test.true (λ e. omega (arith, e, c.if-count-eq-MOST.false)) c.word_end-end.result c.word_end-end.ensures c.bytes_in.result c.bytes_in.ensures _ c.in_ok-total.was, c.loop-at.invariant.few, c.loop-at.invariant.small)

pub overflow_add-at : goal.overflow_add-at
overflow_add-at c = omega (arith, end_inside c.args.line.now c.loop-at.at c.word_end-end.result c.word_end-end.ensures c.loop-at-test.true)

pub loop-at-smaller : goal.loop-at-smaller
loop-at-smaller c = omega (arith, end_inside c.args.line.now c.loop-at.at c.word_end-end.result c.word_end-end.ensures c.loop-at-test.true)

pub loop-at-preserved : goal.loop-at-preserved
loop-at-preserved c = measuring_on c.loop-at.invariant c.loop-at-test.true (λ e. omega (arith, e, c.if-count-eq-MOST.false)) c.word_end-end.result c.word_end-end.ensures c.bytes_in.result c.bytes_in.ensures _ c.in_ok-total.was

pub returns : goal.returns
returns c = measuring_end c.loop-at.invariant c.loop-at-test.false
