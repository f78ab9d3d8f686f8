-- A value below the low end or above the high end is forbidden, and any other lies in the range, since the table's ends are the field's. Assumes nothing.
use mathlib.Core.Path.{◌∙◌, sym, ap}
use mathlib.Core.Bool.{Bool}
use native.Mathlib.Omega.{arith}
use Rattle.format.specs.Table.{field_at, low_of, high_of}
use Rattle.states.specs.Machine.{Ranged}
use Rattle.states.proofs.Senses.{range_in, range_under, range_over}
use Rattle.telegram.proofs.verdict.ranged.Goals as goal

pub returns-then-v-low : goal.returns-then-v-low
returns-then-v-low c =
    let a = c.args in
    c.forbidden.ensures ∙ ap (λ (b : Bool). Ranged b a.l) (sym (range_under (low_of (field_at a.k)) (high_of (field_at a.k)) a.v (omega arith)))

pub returns-then-high-v : goal.returns-then-high-v
returns-then-high-v c =
    let a = c.args in
    c.forbidden-then-high-v.ensures
    ∙ ap (λ (b : Bool). Ranged b a.l) (sym (range_over (low_of (field_at a.k)) (high_of (field_at a.k)) a.v (omega arith) (omega arith)))

pub returns : goal.returns
returns c =
    let a = c.args in
    ap (λ (b : Bool). Ranged b a.l) (sym (range_in (low_of (field_at a.k)) (high_of (field_at a.k)) a.v (omega arith) (omega arith)))
