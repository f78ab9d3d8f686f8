-- `sheet_in::collect` meets its contract. The loop's invariant, `Gathered`: the rows of the text are those that are kept and then those
-- from at on. The measure is how many rows may follow. Assumes nothing.
use mathlib.Core.Path.{sym, ◌∙◌}
use native.Mathlib.Omega.{arith}
use Rattle.sheet.proofs.Gathering.{gathered_first, gathered_all, too_many, room, bad_row, small, gathered_on}
use Rattle.sheet_in.proofs.collect.Goals as goal

pub loop-at-init : goal.loop-at-init
loop-at-init c = gathered_first _ _ _ c.requires.0 c.requires.1

pub shape_of-fields-then-n-eq830 : goal.shape_of-fields-then-n-eq830
shape_of-fields-then-n-eq830 c = c.loop-at.invariant.fields ∙ sym c.requires.0.fields

pub shape_of-values-then-n-eq830 : goal.shape_of-values-then-n-eq830
shape_of-values-then-n-eq830 c = c.loop-at.invariant.values ∙ sym c.requires.0.values

pub returns-then-n-eq830 : goal.returns-then-n-eq830
returns-then-n-eq830 c = too_many c.loop-at.invariant (omega arith) c.if-n-eq830.true

pub overflow_add-result : goal.overflow_add-result
overflow_add-result c = omega (arith, c.loop-at.invariant.few)

pub shape_of-fields-in_default : goal.shape_of-fields-in_default
shape_of-fields-in_default c = c.loop-at.invariant.fields ∙ sym c.requires.0.fields

pub shape_of-values-in_default : goal.shape_of-values-in_default
shape_of-values-in_default c = c.loop-at.invariant.values ∙ sym c.requires.0.values

pub returns-in_default : goal.returns-in_default
returns-in_default c = bad_row c.loop-at.invariant (omega arith) c.if-n-eq830.false c.row_at.ensures c.in_default.is

pub overflow_cast-fields : goal.overflow_cast-fields
overflow_cast-fields c = omega (arith, small c.loop-at.invariant (omega arith) c.if-n-eq830.false c.row_at.ensures c.in-Some.is)

pub bounds-fields-n : goal.bounds-fields-n
bounds-fields-n c = omega (arith, room c.loop-at.invariant (omega arith) c.if-n-eq830.false, c.loop-at.invariant.fields)

pub offset_bounds-values-n : goal.offset_bounds-values-n
offset_bounds-values-n c = omega (arith, c.loop-at.invariant.few)

pub bounds-values-n : goal.bounds-values-n
bounds-values-n c = omega (arith, room c.loop-at.invariant (omega arith) c.if-n-eq830.false, c.loop-at.invariant.values)

pub overflow_add-n : goal.overflow_add-n
overflow_add-n c = omega (arith, c.loop-at.invariant.few)

pub loop-at-smaller : goal.loop-at-smaller
loop-at-smaller c = omega (arith, room c.loop-at.invariant (omega arith) c.if-n-eq830.false)

pub loop-at-preserved : goal.loop-at-preserved
loop-at-preserved c = gathered_on c.loop-at.invariant (omega arith) c.if-n-eq830.false c.row_at.ensures c.in-Some.is

pub shape_of-fields : goal.shape_of-fields
shape_of-fields c = c.loop-at.invariant.fields ∙ sym c.requires.0.fields

pub shape_of-values : goal.shape_of-values
shape_of-values c = c.loop-at.invariant.values ∙ sym c.requires.0.values

pub returns : goal.returns
returns c = gathered_all c.loop-at.invariant (omega arith)
