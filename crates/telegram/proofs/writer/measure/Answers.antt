-- `telegram::writer::measure` meets its contract. The loop's invariant, `Measures`: what the definition answers from the start is what it
-- answers from here, after the entries so far. Assumes nothing.
use Rattle.std.specs.Prelude.{Err}
use mathlib.Core.List.{[]}
use mathlib.Core.Path.{refl, sym, ap, ◌∙◌}
use native.Mathlib.Omega.{arith}
use Rattle.format.specs.Table.{field_at}
use Rattle.format.specs.declared.Refusal.{Refusal}
use Rattle.states.specs.Writer.{size_of}
use Rattle.states.proofs.Driving.{starts_low}
use Rattle.states.proofs.Stepping.{width_in}
use Rattle.states.proofs.Measuring.{measures_first, measures_on, fits, fits_both, ends_none, ends_unfit, ends_broken, ends_well, ends_trailing}
use Rattle.states.proofs.Walking.{measures_passed}
use Rattle.telegram.proofs.Outcomes.{goes_to}
use Rattle.telegram.proofs.writer.measure.Goals as goal

pub loop-i-init : goal.loop-i-init
loop-i-init c = measures_first refl c.begin-st.ensures

pub width-w-requires : goal.width-w-requires
width-w-requires c = c.loop-i.invariant.drives.sound.tidy.inside

pub overflow_add-end : goal.overflow_add-end
overflow_add-end c =
    let w = width_in (field_at c.loop-i.st.todo.node) in
    omega (arith, c.loop-i.invariant.low, c.width-w.ensures)

pub refused-requires : goal.refused-requires
refused-requires c = starts_low c.loop-i.invariant.drives.sound c.loop-i.invariant.low

pub returns-in-Err : goal.returns-in-Err
returns-in-Err c =
    ap (λ (r : Refusal). Err r) (c.refused.ensures [])
    ∙ sym (ap size_of (ends_unfit c.loop-i.invariant (omega (arith, c.loop-i-test.true)) c.width-w.ensures refl (sym c.fitting.ensures ∙ c.in-Err.is)))

pub repeated_in_values-requires : goal.repeated_in_values-requires
repeated_in_values-requires c =
    let m = c.loop-i.invariant in
    (m.drives.sound.tidy.inside, m.within)

pub step-requires : goal.step-requires
step-requires c =
    let m = c.loop-i.invariant in
    let f = fits_both c.loop-i.invariant (omega (arith, c.loop-i-test.true)) c.width-w.ensures refl (sym c.fitting.ensures ∙ c.in_default.is) in
    record { sound = m.drives.sound; low = omega (arith, m.low); fits = fits m (omega (arith, c.loop-i-test.true)) c.width-w.ensures f.0 }

pub refused-requires-in-Err-step : goal.refused-requires-in-Err-step
refused-requires-in-Err-step c = starts_low c.loop-i.invariant.drives.sound c.loop-i.invariant.low

pub returns-in-Err-step : goal.returns-in-Err-step
returns-in-Err-step c =
    let f = fits_both c.loop-i.invariant (omega (arith, c.loop-i-test.true)) c.width-w.ensures refl (sym c.fitting.ensures ∙ c.in_default.is) in
    ap (λ (r : Refusal). Err r) (c.refused-in-Err-step.ensures []) ∙ sym (ap size_of (ends_broken c.loop-i.invariant (omega (arith, c.loop-i-test.true)) c.width-w.ensures f.0 f.1 (measures_passed c.loop-i.invariant _ c.repeated_in_values.ensures c.step.ensures) c.in-Err-step.is))

pub returns-then-i-values : goal.returns-then-i-values
returns-then-i-values c =
    let f = fits_both c.loop-i.invariant (omega (arith, c.loop-i-test.true)) c.width-w.ensures refl (sym c.fitting.ensures ∙ c.in_default.is) in
    ends_well c.loop-i.invariant (omega (arith, c.loop-i-test.true)) c.width-w.ensures f.0 f.1 (measures_passed c.loop-i.invariant _ c.repeated_in_values.ensures c.step.ensures) (goes_to c.in-Ok-None.is c.in-Ok-None.field-0-is) c.if-i-values.true

pub refused-requires-in-Ok-None : goal.refused-requires-in-Ok-None
refused-requires-in-Ok-None c = starts_low c.loop-i.invariant.drives.sound c.loop-i.invariant.low

pub returns-in-Ok-None : goal.returns-in-Ok-None
returns-in-Ok-None c =
    let f = fits_both c.loop-i.invariant (omega (arith, c.loop-i-test.true)) c.width-w.ensures refl (sym c.fitting.ensures ∙ c.in_default.is) in
    ap (λ (r : Refusal). Err r) (c.refused-in-Ok-None.ensures []) ∙ sym (ap size_of (ends_trailing c.loop-i.invariant (omega (arith, c.loop-i-test.true)) c.width-w.ensures f.0 f.1 (measures_passed c.loop-i.invariant _ c.repeated_in_values.ensures c.step.ensures) (goes_to c.in-Ok-None.is c.in-Ok-None.field-0-is) c.if-i-values.false))

pub loop-i-preserved : goal.loop-i-preserved
loop-i-preserved c =
    let f = fits_both c.loop-i.invariant (omega (arith, c.loop-i-test.true)) c.width-w.ensures refl (sym c.fitting.ensures ∙ c.in_default.is) in
    measures_on c.loop-i.invariant (omega (arith, c.loop-i-test.true)) c.width-w.ensures f.0 f.1 (measures_passed c.loop-i.invariant _ c.repeated_in_values.ensures c.step.ensures) (goes_to c.in-Ok-Some.is c.in-Ok-Some.field-0-is)

-- the list ends before the mark
pub refused-requires-2 : goal.refused-requires-2
refused-requires-2 c = starts_low c.loop-i.invariant.drives.sound c.loop-i.invariant.low

pub returns : goal.returns
returns c =
    ap (λ (r : Refusal). Err r) (c.refused-2.ensures []) ∙ sym (ap size_of (ends_none c.loop-i.invariant (omega (arith, c.loop-i-test.false)) _))
