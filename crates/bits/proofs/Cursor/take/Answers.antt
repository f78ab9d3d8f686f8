-- `bits::Cursor::take` meets its contract: where a whole field lies inside, both ways of reading it give its number. Assumes nothing.
use mathlib.Core.Path.{◌≡◌, sym, ◌∙◌}
use Prim.Native.Nat.{◌+◌}
use native.Mathlib.Omega.{arith}
use lib.ListN.{length}
use Rattle.word64.proofs.Words.{narrow}
use Rattle.bits.specs.Bits.{value_of}
use Rattle.bits.specs.Take.{field_bits}
use Rattle.bits.proofs.Fields.{IsField, inside_field, take_whole, take_outside}
use Rattle.bits.proofs.Cursor.take.Goals as goal
use Rattle.bits.proofs.Cursor.take.Goals.{then-wide, else-wide}

pub returns-then-not-inside : goal.returns-then-not-inside
returns-then-not-inside c =
    let a = c.args in
    sym (take_outside a.s.now a.n a.width a.self.at (sym c.inside.ensures ∙ c.if-not-inside.true))

pub joined-v-requires : goal.joined-v-requires
joined-v-requires c =
    let a = c.args in
    let whole : IsField a.s.now a.n a.width a.self.at (value_of (field_bits a.s.now a.width a.self.at)) (a.self.at + a.width) = inside_field _ _ _ _ (sym c.inside.ensures ∙ c.if-not-inside.false) in
    let i = whole in omega arith

pub windowed-v-requires : goal.windowed-v-requires
windowed-v-requires c =
    let a = c.args in
    let whole : IsField a.s.now a.n a.width a.self.at (value_of (field_bits a.s.now a.width a.self.at)) (a.self.at + a.width) = inside_field _ _ _ _ (sym c.inside.ensures ∙ c.if-not-inside.false) in
    let i = whole in
    let a = c.args in
    let n = narrow (length a.s.now) a.width (sym c.wide.ensures ∙ c.if-wide.false) in
    omega arith

pub overflow_add-result : goal.overflow_add-result
overflow_add-result c =
    let a = c.args in
    let whole : IsField a.s.now a.n a.width a.self.at (value_of (field_bits a.s.now a.width a.self.at)) (a.self.at + a.width) = inside_field _ _ _ _ (sym c.inside.ensures ∙ c.if-not-inside.false) in
    let i = whole in omega arith

pub returns : goal.returns
returns c =
    let a = c.args in
    let whole : IsField a.s.now a.n a.width a.self.at (value_of (field_bits a.s.now a.width a.self.at)) (a.self.at + a.width) = inside_field _ _ _ _ (sym c.inside.ensures ∙ c.if-not-inside.false) in
    let a = c.args in
    let number : c.if-wide.v ≡ value_of (field_bits a.s.now a.width a.self.at) = elim c.if-wide.branch [ then-wide w ↦ w.v-is ∙ w.joined-v.ensures | else-wide w ↦ w.v-is ∙ w.windowed-v.ensures ] in
    let i = whole in
    rw number (sym (take_whole _ _ _ _ i.narrow i.within i.room))
