-- Writers that cheat, and for each a list of values at which its answer, or what it leaves in the lent bytes, does not meet the promise:
-- the checker computes what the definitions answer there. Assumes nothing.
use Rattle.std.specs.Prelude.{Ok}
use mathlib.Core.List.{List, [], ◌∷◌, ◌++◌}
use mathlib.Core.Logic.{◌≢◌}
use mathlib.Core.Path.{◌≡◌, refl, ap, ◌∙◌}
use Prim.Native.Nat.{ℕ}
use native.Mathlib.Omega.{arith}
use lib.ListN.{length, drop, get_or, replicate}
use Rattle.bits.specs.Bits.{digits, value_of, bytes_of, packed, filled}
use Rattle.format.specs.Packets.{◌⧺◌, times, header, etcs, ctcs, find}
use Rattle.format.specs.Rules.{begun, next, misdirected, broken, noted, closes, settled, onward, step, radio_from, spot_of, spot_at, place_from, field_place, clash, among, collides_by, paper}
use Rattle.format.specs.Telegrams.{Result, write, from_values, drive, bits_in}
use Rattle.states.specs.Writer.{write_into, size_of, bytes_over, Write}
use Rattle.states.proofs.Answered.{write_answer}
use Rattle.format.specs.Refusals.{Answer}

-- bytes enough, all 0
abbrev lent : List ℕ
lent = replicate 104 0

-- what the writer answers for them, computed
unfoldable computed : List ℕ → Result
unfolding write_into write drive begun from_values digits value_of step next find etcs ctcs header times ◌⧺◌ broken misdirected noted settled onward closes radio_from spot_of spot_at place_from field_place collides_by among clash
computed vs = write_into paper vs (length lent)

-- a header and the end mark, and their bytes
abbrev pub one : List ℕ
one = 1 ∷ 16 ∷ 0 ∷ 1 ∷ 2 ∷ 0 ∷ 30 ∷ 21 ∷ 4100 ∷ 0 ∷ 255 ∷ []

abbrev bytes : List ℕ
bytes = 0x90 ∷ 0x14 ∷ 0x0F ∷ 0x02 ∷ 0xA8 ∷ 0x02 ∷ 0x3F ∷ 0xC0 ∷ []

one_answer : size_of (write_into paper one 104) ≡ Ok 58
unfolding computed
one_answer = refl

one_written : bytes_over (write_into paper one 104) lent ≡ bytes ++ drop 8 lent
unfolding computed bits_in bytes_of packed filled
one_written = refl

-- the same without its end mark is refused
abbrev pub unended : List ℕ
unended = 1 ∷ 16 ∷ 0 ∷ 1 ∷ 2 ∷ 0 ∷ 30 ∷ 21 ∷ 4100 ∷ 0 ∷ []

unended_keeps : bytes_over (write_into paper unended 104) lent ≡ lent
unfolding computed
unended_keeps = refl

-- ---- one that does nothing, and says that it wrote

pub writes_nothing : (n : ℕ) → Write paper one lent (Ok n) lent → ⊥
writes_nothing n h =
    let z : ◌≡◌ {A = ℕ} 0 0x90 = ap (λ (l : List ℕ). get_or l 0 0) (h.contents ∙ one_written) in
    omega arith

-- ---- one that writes before it has checked

-- whatever it answers and whatever it has put there
pub writes_at_once : (a : Answer) (after : List ℕ) → after ≢ lent → Write paper unended lent a after → ⊥
writes_at_once a after d h = d (h.contents ∙ unended_keeps)

-- ---- one that invents n

pub invents_n : (n : ℕ) (after : List ℕ) → n ≢ 58 → Write paper one lent (Ok n) after → ⊥
invents_n n after d h = let e = write_answer h ∙ one_answer in d cc
