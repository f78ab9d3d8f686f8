-- `packing::character` meets its contract, by what taking the field of one bit finds. Assumes nothing.
use mathlib.Core.Path.{sym, ap, ◌∙◌}
use Rattle.packing.specs.Packing.{character_in}
use Rattle.packing.proofs.Characters.{character_one, character_zero}
use Rattle.packing.proofs.character.Goals as goal

pub returns-in_default : goal.returns-in_default
returns-in_default c = sym (ap character_in (sym c.take.ensures ∙ c.in_default.is))

pub returns-then-bit-eq1 : goal.returns-then-bit-eq1
returns-then-bit-eq1 c =
    character_one _ c.if-bit-eq1.true
    ∙ sym (ap character_in (sym c.take.ensures ∙ c.in-Some.is))

pub returns-else-bit-eq1 : goal.returns-else-bit-eq1
returns-else-bit-eq1 c =
    character_zero _ c.if-bit-eq1.false
    ∙ sym (ap character_in (sym c.take.ensures ∙ c.in-Some.is))
