-- `telegram::reader::walk` meets its contract. The loop's invariant, `Scans`: what the definition answers from the start is what it answers
-- from here, after the entries so far. The measure is how many bits are left. Assumes nothing.
use Rattle.std.specs.Prelude.{Err}
use mathlib.Core.List.{[]}
use mathlib.Core.Path.{sym, ap, ◌∙◌}
use native.Mathlib.Omega.{arith}
use borrow.Author.Rules.{rules}
use Rattle.format.specs.declared.Refusal.{Refusal}
use Rattle.states.specs.Reader.{answer_of}
use Rattle.states.proofs.Drifting.{further}
use Rattle.states.proofs.Driving.{starts_low}
use Rattle.states.proofs.Heading.{scans_led, less_led}
use Rattle.states.proofs.LookedBack.{scans_passed}
use Rattle.states.proofs.Scanning.{scans_here, scans_drifted, scans_slight, scans_closed, less_slight, scans_on, fits, less, ends_short, ends_broken, ends_well, ends_trailing}
use Rattle.telegram.proofs.Outcomes.{goes_to}
use Rattle.telegram.proofs.reader.walk.Goals as goal

pub loop-after-init : goal.loop-after-init
loop-after-init c = c.requires

-- what no rule reads

pub drift-g-requires : goal.drift-g-requires
drift-g-requires c = let d = c.loop-after.invariant.drives in d.sound.tidy

pub overflow_add-count : goal.overflow_add-count
overflow_add-count c =
    let i = scans_drifted c.loop-after.invariant c.drift-g.ensures in
    omega (arith, i.few, i.within, i.low)

-- a head

pub overflow_add-count-in-Some : goal.overflow_add-count-in-Some
overflow_add-count-in-Some c =
    let i = scans_drifted c.loop-after.invariant c.drift-g.ensures in
    omega (arith, i.few, i.within, i.low)

pub loop-after-smaller-in-Some : goal.loop-after-smaller-in-Some
loop-after-smaller-in-Some c =
    let i = scans_drifted c.loop-after.invariant c.drift-g.ensures in
    let l = less_led i (rw c.in-Some.is at c.leading.ensures) in
    omega (arith, further c.drift-g.ensures)

pub loop-after-preserved-in-Some : goal.loop-after-preserved-in-Some
loop-after-preserved-in-Some c =
    let i = scans_drifted c.loop-after.invariant c.drift-g.ensures in
    scans_led i (rw c.in-Some.is at c.leading.ensures)

pub enum_told-1 : goal.enum_told-1
enum_told-1 c = search rules

-- a field

pub width-requires : goal.width-requires
width-requires c =
    let i = scans_drifted c.loop-after.invariant c.drift-g.ensures in
    i.drives.sound.tidy.inside

pub refused-requires : goal.refused-requires
refused-requires c =
    let i = scans_drifted c.loop-after.invariant c.drift-g.ensures in
    starts_low i.drives.sound (omega (arith, i.within, i.low))

pub returns-in_default-take : goal.returns-in_default-take
returns-in_default-take c =
    let i = scans_drifted c.loop-after.invariant c.drift-g.ensures in
    ap (λ (r : Refusal). Err r) (c.refused.ensures []) ∙ sym (ap answer_of (ends_short i c.width.ensures c.take.ensures c.in_default-take.is _))

-- a value of which nothing is kept

pub ease-requires : goal.ease-requires
ease-requires c =
    let i = scans_drifted c.loop-after.invariant c.drift-g.ensures in
    i.drives.sound.tidy

pub overflow_add-count-in-To : goal.overflow_add-count-in-To
overflow_add-count-in-To c =
    let i = scans_drifted c.loop-after.invariant c.drift-g.ensures in
    omega (arith, i.few, i.within, i.low)

pub loop-after-smaller-in-To : goal.loop-after-smaller-in-To
loop-after-smaller-in-To c =
    let i = scans_drifted c.loop-after.invariant c.drift-g.ensures in
    let q = rw c.in-To.is at c.ease.ensures in
    let l = less_slight i c.width.ensures c.take.ensures c.in-Some-take.is q.0 q.1 in
    omega (arith, further c.drift-g.ensures)

pub loop-after-preserved-in-To : goal.loop-after-preserved-in-To
loop-after-preserved-in-To c =
    let i = scans_drifted c.loop-after.invariant c.drift-g.ensures in
    let q = rw c.in-To.is at c.ease.ensures in
    scans_here (scans_slight i c.width.ensures c.take.ensures c.in-Some-take.is q.0 q.1 q.2)

-- at a packet's end

pub overflow_add-count-then-closes : goal.overflow_add-count-then-closes
overflow_add-count-then-closes c =
    let i = scans_drifted c.loop-after.invariant c.drift-g.ensures in
    omega (arith, i.few, i.within, i.low)

pub loop-after-smaller-then-closes : goal.loop-after-smaller-then-closes
loop-after-smaller-then-closes c =
    let i = scans_drifted c.loop-after.invariant c.drift-g.ensures in
    let q = rw c.in-Ends.is at c.ease.ensures in
    let l = less_slight i c.width.ensures c.take.ensures c.in-Some-take.is q.0 q.1 in
    rw c.fresh-st.ensures (omega (arith, further c.drift-g.ensures))

pub loop-after-preserved-then-closes : goal.loop-after-preserved-then-closes
loop-after-preserved-then-closes c =
    let i = scans_drifted c.loop-after.invariant c.drift-g.ensures in
    let q = rw c.in-Ends.is at c.ease.ensures in
    rw c.fresh-st.ensures
    (scans_here (scans_closed i c.width.ensures c.take.ensures c.in-Some-take.is q.0 q.1 q.2 (λ l. sym (c.closes.ensures l) ∙ c.if-closes.true)))

pub enum_told-in-Not : goal.enum_told-in-Not
enum_told-in-Not c = search rules

-- any other

pub repeated_in_bits-requires : goal.repeated_in_bits-requires
repeated_in_bits-requires c =
    let i = scans_drifted c.loop-after.invariant c.drift-g.ensures in
    i.drives.sound.tidy.inside

pub step-requires : goal.step-requires
step-requires c =
    let i = scans_drifted c.loop-after.invariant c.drift-g.ensures in
    record { sound = i.drives.sound; low = omega (arith, i.within, i.low); fits = fits i c.width.ensures c.take.ensures c.in-Some-take.is }

pub refused-requires-in-Err : goal.refused-requires-in-Err
refused-requires-in-Err c =
    let i = scans_drifted c.loop-after.invariant c.drift-g.ensures in
    starts_low i.drives.sound (omega (arith, i.within, i.low))

pub returns-in-Err : goal.returns-in-Err
returns-in-Err c =
    let i = scans_drifted c.loop-after.invariant c.drift-g.ensures in
    ap (λ (r : Refusal). Err r) (c.refused-in-Err.ensures []) ∙ sym (ap answer_of (ends_broken i c.width.ensures c.take.ensures c.in-Some-take.is (scans_passed i _ c.repeated_in_bits.ensures c.step.ensures) c.in-Err.is))

pub overflow_add-result : goal.overflow_add-result
overflow_add-result c =
    let i = scans_drifted c.loop-after.invariant c.drift-g.ensures in
    omega (arith, i.few, i.within, i.low)

pub returns-then-next-n : goal.returns-then-next-n
returns-then-next-n c =
    let i = scans_drifted c.loop-after.invariant c.drift-g.ensures in
    ends_well i c.width.ensures c.take.ensures c.in-Some-take.is (scans_passed i _ c.repeated_in_bits.ensures c.step.ensures) (goes_to c.in-Ok-None.is c.in-Ok-None.field-0-is) c.if-next-n.true

pub refused-requires-in-Ok-None : goal.refused-requires-in-Ok-None
refused-requires-in-Ok-None c =
    let i = scans_drifted c.loop-after.invariant c.drift-g.ensures in
    starts_low i.drives.sound (omega (arith, i.within, i.low))

pub returns-in-Ok-None : goal.returns-in-Ok-None
returns-in-Ok-None c =
    let i = scans_drifted c.loop-after.invariant c.drift-g.ensures in
    ap (λ (r : Refusal). Err r) (c.refused-in-Ok-None.ensures [])
    ∙ sym (ap answer_of (ends_trailing i c.width.ensures c.take.ensures c.in-Some-take.is (scans_passed i _ c.repeated_in_bits.ensures c.step.ensures) (goes_to c.in-Ok-None.is c.in-Ok-None.field-0-is) c.if-next-n.false))

pub overflow_add-count-in-Ok-Some : goal.overflow_add-count-in-Ok-Some
overflow_add-count-in-Ok-Some c =
    let i = scans_drifted c.loop-after.invariant c.drift-g.ensures in
    omega (arith, i.few, i.within, i.low)

pub loop-after-smaller : goal.loop-after-smaller
loop-after-smaller c =
    let i = scans_drifted c.loop-after.invariant c.drift-g.ensures in
    let l = less i c.width.ensures c.take.ensures c.in-Some-take.is (scans_passed i _ c.repeated_in_bits.ensures c.step.ensures) (goes_to c.in-Ok-Some.is c.in-Ok-Some.field-0-is) in
    omega (arith, further c.drift-g.ensures)

pub loop-after-preserved : goal.loop-after-preserved
loop-after-preserved c =
    let i = scans_drifted c.loop-after.invariant c.drift-g.ensures in
    scans_here (scans_on i c.width.ensures c.take.ensures c.in-Some-take.is (scans_passed i _ c.repeated_in_bits.ensures c.step.ensures) (goes_to c.in-Ok-Some.is c.in-Ok-Some.field-0-is))
