-- `group_words::lay` meets its contract: the first telegrams were put. The measure is how many characters are left. Assumes nothing.
use Rattle.group_words.proofs.Puts.{laying_first, laying_inside, laying_length, laying_counts, laying_counted, laying_lent, laying_used, laying_on, laying_end}
use Rattle.group_words.proofs.Walks.{end_inside}
use native.Mathlib.Omega.{arith}
use Rattle.group_words.proofs.lay.Goals as goal

pub loop-at-init : goal.loop-at-init
loop-at-init c = laying_first c.args.line.now c.args.bytes.now c.args.ns.now (record { are = c.requires.0; fits = c.requires.1; holds = c.requires.2 })

pub slice_bounds-telegram-end : goal.slice_bounds-telegram-end
slice_bounds-telegram-end c = omega (arith, end_inside c.args.line.now c.loop-at.at c.word_end-end.result c.word_end-end.ensures c.loop-at-test.true)

pub slice_bounds-telegram-count-in-loop-at : goal.slice_bounds-telegram-count-in-loop-at
slice_bounds-telegram-count-in-loop-at c = omega (arith, laying_inside (record { are = c.requires.0; fits = c.requires.1; holds = c.requires.2 }) c.loop-at.invariant)

pub slice_bounds-telegram-start-in-loop-at : goal.slice_bounds-telegram-start-in-loop-at
slice_bounds-telegram-start-in-loop-at c = omega (arith, laying_inside (record { are = c.requires.0; fits = c.requires.1; holds = c.requires.2 }) c.loop-at.invariant)

pub shape_of-bytes-in_default : goal.shape_of-bytes-in_default
shape_of-bytes-in_default c = absurd (c.in_default.not-Ok _ (laying_lent (record { are = c.requires.0; fits = c.requires.1; holds = c.requires.2 }) c.loop-at.invariant c.loop-at-test.true c.word_end-end.result c.word_end-end.ensures c.telegram-lent.result _ c.telegram-lent.ensures))

pub shape_of-ns-in_default : goal.shape_of-ns-in_default
shape_of-ns-in_default c = absurd (c.in_default.not-Ok _ (laying_lent (record { are = c.requires.0; fits = c.requires.1; holds = c.requires.2 }) c.loop-at.invariant c.loop-at-test.true c.word_end-end.result c.word_end-end.ensures c.telegram-lent.result _ c.telegram-lent.ensures))

pub returns-in_default : goal.returns-in_default
returns-in_default c = absurd (c.in_default.not-Ok _ (laying_lent (record { are = c.requires.0; fits = c.requires.1; holds = c.requires.2 }) c.loop-at.invariant c.loop-at-test.true c.word_end-end.result c.word_end-end.ensures c.telegram-lent.result _ c.telegram-lent.ensures))

pub offset_bounds-ns-i : goal.offset_bounds-ns-i
offset_bounds-ns-i c = omega (arith, laying_counted (record { are = c.requires.0; fits = c.requires.1; holds = c.requires.2 }) c.loop-at.invariant c.loop-at-test.true c.word_end-end.result c.word_end-end.ensures, laying_counts (record { are = c.requires.0; fits = c.requires.1; holds = c.requires.2 }) c.loop-at.invariant)

pub bounds-ns-i : goal.bounds-ns-i
bounds-ns-i c = laying_counted (record { are = c.requires.0; fits = c.requires.1; holds = c.requires.2 }) c.loop-at.invariant c.loop-at-test.true c.word_end-end.result c.word_end-end.ensures

pub overflow_add-used : goal.overflow_add-used
overflow_add-used c = omega (arith, laying_used (record { are = c.requires.0; fits = c.requires.1; holds = c.requires.2 }) c.loop-at.invariant c.loop-at-test.true c.word_end-end.result c.word_end-end.ensures c.telegram-lent.result _ c.telegram-lent.ensures _ _ c.in-Ok.is, laying_length (record { are = c.requires.0; fits = c.requires.1; holds = c.requires.2 }) c.loop-at.invariant)

pub overflow_add-i : goal.overflow_add-i
overflow_add-i c = omega (arith, laying_counted (record { are = c.requires.0; fits = c.requires.1; holds = c.requires.2 }) c.loop-at.invariant c.loop-at-test.true c.word_end-end.result c.word_end-end.ensures, laying_counts (record { are = c.requires.0; fits = c.requires.1; holds = c.requires.2 }) c.loop-at.invariant)

pub overflow_add-at : goal.overflow_add-at
overflow_add-at c = omega (arith, end_inside c.args.line.now c.loop-at.at c.word_end-end.result c.word_end-end.ensures c.loop-at-test.true)

pub loop-at-smaller : goal.loop-at-smaller
loop-at-smaller c = omega (arith, end_inside c.args.line.now c.loop-at.at c.word_end-end.result c.word_end-end.ensures c.loop-at-test.true)

pub loop-at-preserved : goal.loop-at-preserved
loop-at-preserved c = laying_on (record { are = c.requires.0; fits = c.requires.1; holds = c.requires.2 }) c.loop-at.invariant c.loop-at-test.true c.word_end-end.result c.word_end-end.ensures c.telegram-lent.result _ c.telegram-lent.ensures _ _ c.in-Ok.is

pub shape_of-bytes : goal.shape_of-bytes
shape_of-bytes c = laying_length (record { are = c.requires.0; fits = c.requires.1; holds = c.requires.2 }) c.loop-at.invariant

pub shape_of-ns : goal.shape_of-ns
shape_of-ns c = laying_counts (record { are = c.requires.0; fits = c.requires.1; holds = c.requires.2 }) c.loop-at.invariant

pub returns : goal.returns
returns c = laying_end (record { are = c.requires.0; fits = c.requires.1; holds = c.requires.2 }) c.loop-at.invariant c.loop-at-test.false
