-- Functions that cheat where `label` is promised, and for each a list of values at which what it leaves in the lent run does not meet the
-- promise: the checker computes what the definitions answer there. Assumes nothing.
use mathlib.Core.List.{List, ◌∷◌}
use mathlib.Core.Logic.{◌≢◌}
use mathlib.Core.Path.{◌≡◌, refl, sym, ap, ◌∙◌}
use Prim.Native.Nat.{ℕ}
use native.Mathlib.Omega.{arith}
use lib.ListN.{length, drop, get_or, replicate}
use Rattle.bits.specs.Bits.{digits, value_of}
use Rattle.format.specs.Fields.{NID_PACKET}
use Rattle.format.specs.Packets.{◌⧺◌, times, header, etcs, ctcs, find}
use Rattle.format.specs.Rules.{begun, next, misdirected, broken, noted, closes, settled, onward, step, radio_from, spot_of, spot_at, place_from, field_place, clash, among, collides_by, paper}
use Rattle.format.specs.Telegrams.{Result, write, from_values, drive}
use Rattle.states.specs.Labels.{numbers_in, label_into, numbers_over, Label}
use Rattle.states.proofs.WriterCheats.{one, unended}
use Rattle.format.specs.Refusals.{Answer}

-- numbers enough, all 0
abbrev lent : List ℕ
lent = replicate 830 0

-- what is answered for them, computed
unfoldable computed : List ℕ → Result
unfolding label_into write drive begun from_values digits value_of step next find etcs ctcs header times ◌⧺◌ broken misdirected noted settled onward closes radio_from spot_of spot_at place_from field_place collides_by among clash
computed vs = label_into paper vs (length lent)

-- a header and the end mark
one_labelled : numbers_over (label_into paper one 830) lent ≡ 0 ∷ 1 ∷ 2 ∷ 3 ∷ 4 ∷ 5 ∷ 6 ∷ 7 ∷ 8 ∷ 9 ∷ 71 ∷ drop 11 lent
unfolding computed numbers_in
one_labelled = refl

unended_keeps : numbers_over (label_into paper unended 830) lent ≡ lent
unfolding computed
unended_keeps = refl

-- ---- one that names the end mark as any packet's identifier

pub end_mark_named_packet : (a : Answer) (after : List ℕ) → get_or after 10 0 ≡ NID_PACKET.number → Label paper one lent a after → ⊥
end_mark_named_packet a after e h =
    let z : ◌≡◌ {A = ℕ} 10 71 = sym e ∙ ap (λ (l : List ℕ). get_or l 10 0) (h.contents ∙ one_labelled) in
    omega arith

-- ---- one that labels before it has checked

-- whatever it answers and whatever it has put there
pub labels_at_once : (a : Answer) (after : List ℕ) → after ≢ lent → Label paper unended lent a after → ⊥
labels_at_once a after d h = d (h.contents ∙ unended_keeps)
