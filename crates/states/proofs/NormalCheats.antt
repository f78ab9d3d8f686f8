-- Normalisers that cheat, and for each a telegram at which its answer, or what it leaves in the lent bytes, does not meet the promise: the
-- checker computes what the definitions answer there. Assumes nothing.
use Rattle.std.specs.Prelude.{Ok}
use mathlib.Core.List.{List, [], ◌∷◌, ◌++◌}
use mathlib.Core.Logic.{◌≢◌}
use mathlib.Core.Path.{◌≡◌, refl, sym, ap, ◌∙◌}
use Prim.Native.Nat.{ℕ, ◌+◌, ◌-◌}
use native.Mathlib.Omega.{arith}
use lib.ListN.{length, take, drop, get_or, replicate}
use lib.Seq.{take-add}
use Rattle.bits.specs.Bits.{digits, value_of, bits_of, bytes_of, packed, filled}
use Rattle.format.specs.Normal.{metric, normal_under}
use Rattle.format.specs.Packets.{◌⧺◌, times, header, etcs, ctcs, find}
use Rattle.format.specs.Refusals.{in_numbers, Answer}
use Rattle.format.specs.Rules.{begun, next, misdirected, broken, noted, closes, settled, onward, step, radio_from, spot_of, spot_at, place_from, field_place, clash, among, collides_by, paper}
use Rattle.format.specs.Telegrams.{Entry, Result, read, from_bits, drive, bits_in}
use Rattle.format.specs.Telegrams.Result.{accepted, refused}
use Rattle.laws.proofs.Prefix.{bits_no_prefix}
use Rattle.states.specs.Reader.{checked}
use Rattle.states.specs.Writer.{size_of, bytes_over}
use Rattle.states.specs.Normaliser.{normal_of, normalise_into, Normalise}
use Rattle.states.proofs.Answered.{normalise_answer}
use Rattle.states.proofs.Answers.{sized_is, check_judges}

-- bytes enough, all 0
abbrev lent : List ℕ
lent = replicate 104 0

-- bytes in front of them
abbrev over : List ℕ → List ℕ
over s = s ++ drop (length s) lent

-- what the normaliser answers for bytes and n, computed
unfoldable computed : List ℕ → ℕ → Result
unfolding normalise_into checked read drive begun from_bits bits_of digits value_of step next find etcs ctcs header times ◌⧺◌ broken misdirected noted settled onward closes radio_from spot_of spot_at place_from field_place collides_by among clash metric normal_under
computed s n = normalise_into paper s n (length lent)

-- telegrams of 137 bits with CTCS-3: at 10 m, 50 and 30; at 1 m, 500 and 300; and at 10 cm, 250 and 1015. They differ from Q_SCALE on.
abbrev reversing : List ℕ → List ℕ
reversing s = 0x90 ∷ 0x14 ∷ 0x0F ∷ 0x02 ∷ 0xA8 ∷ 0x02 ∷ 0x0B ∷ 0x10 ∷ 0x27 ∷ 0x80 ∷ 0xD0 ∷ 0x1C ∷ s

abbrev tens : List ℕ
tens = reversing (0x40 ∷ 0x0C ∷ 0x80 ∷ 0x0F ∷ 0x7F ∷ 0x80 ∷ [])

abbrev metres : List ℕ
metres = reversing (0x20 ∷ 0x7D ∷ 0x00 ∷ 0x96 ∷ 0x7F ∷ 0x80 ∷ [])

abbrev tenths : List ℕ
tenths = reversing (0x00 ∷ 0x3E ∷ 0x81 ∷ 0xFB ∷ 0xFF ∷ 0x80 ∷ [])

answer : size_of (normalise_into paper tens 137 104) ≡ Ok 137
unfolding computed
answer = refl

-- "50 at 10 m and 500 at 1 m say the same": both become the second
tens_become : bytes_over (normalise_into paper tens 137 104) lent ≡ over metres
unfolding computed bits_in bytes_of packed filled
tens_become = refl

tens_normal : bytes_over (normal_of (checked paper tens 137)) lent ≡ over metres
unfolding computed bits_in bytes_of packed filled
tens_normal = refl

metres_stay : bytes_over (normalise_into paper metres 137 104) lent ≡ over metres
unfolding computed bits_in bytes_of packed filled
metres_stay = refl

tenths_stay : bytes_over (normalise_into paper tenths 137 104) lent ≡ over tenths
unfolding computed bits_in bytes_of packed filled
tenths_stay = refl

-- an honest one meets the promise there
pub honest : Normalise paper tens 137 lent (Ok 137) (over metres)
honest = record { answers = sym (ap in_numbers answer); contents = sym tens_become }

-- ---- one that copies its input

abbrev entries_in : Result → List Entry
entries_in (accepted es) = es
entries_in (refused r) = []

tens_accepted : checked paper tens 137 ≡ accepted (entries_in (checked paper tens 137))
unfolding computed
tens_accepted = refl

-- no other n is accepted with these bytes: 137 of their bits are a telegram, and no telegram begins another
same_entries : (n : ℕ) (es : List Entry) → checked paper tens n ≡ accepted es → checked paper tens 137 ≡ checked paper tens n
same_entries n es h =
    let fs = entries_in (checked paper tens 137) in
    let a = ((check_judges paper tens 137).accepts fs).0 tens_accepted in
    let b = ((check_judges paper tens n).accepts es).0 h in
    let z = ((sized_is tens n).0 b.size).2 in
    let k : 137 + (n - 137) ≡ n = omega arith in
    let longer : take n (bits_of tens) ≡ take 137 (bits_of tens) ++ take (n - 137) (drop 137 (bits_of tens)) =
    ap (λ (j : ℕ). take j (bits_of tens)) (sym k) ∙ take-add 137 (n - 137) (bits_of tens) in
    let e = (bits_no_prefix paper a.telegram b.telegram (take (n - 137) (drop 137 (bits_of tens))) (rw (← a.is) (sym longer ∙ b.is))).0 in
    tens_accepted ∙ ap accepted e ∙ sym h

copied : (n : ℕ) (r : Result) → checked paper tens n ≡ r → over tens ≡ bytes_over (normal_of r) lent → ⊥
copied n (refused r) e h =
    let z : ◌≡◌ {A = ℕ} 0x90 0 = ap (λ (l : List ℕ). get_or l 0 0) h in
    omega arith
copied n (accepted es) e h =
    let z : ◌≡◌ {A = ℕ} 0x40 0x20 =
    ap (λ (l : List ℕ). get_or l 12 0) (h ∙ ap (λ (r : Result). bytes_over (normal_of r) lent) (sym e ∙ sym (same_entries n es e)) ∙ tens_normal) in
    omega arith

-- whatever n it is given with these bytes, and whatever it answers
pub copies : (n : ℕ) (a : Answer) → Normalise paper tens n lent a (over tens) → ⊥
unfolding normalise_into
copies n a h = copied n (checked paper tens n) refl h.contents

-- ---- one that leaves two different contents for two telegrams that say the same

pub tells_apart : (a b : Answer) (x y : List ℕ) → x ≢ y → Normalise paper tens 137 lent a x → Normalise paper metres 137 lent b y → ⊥
tells_apart a b x y d h g = d (h.contents ∙ tens_become ∙ sym (g.contents ∙ metres_stay))

-- ---- one that tells in metres what is no whole number of them

-- or that changes anything else of it
pub rounds : (a : Answer) (after : List ℕ) → after ≢ over tenths → Normalise paper tenths 137 lent a after → ⊥
rounds a after d h = d (h.contents ∙ tenths_stay)

-- ---- one that does nothing, and says that it wrote

pub tells_nothing : (a : Answer) → Normalise paper tens 137 lent a lent → ⊥
tells_nothing a h =
    let z : ◌≡◌ {A = ℕ} 0 0x90 = ap (λ (l : List ℕ). get_or l 0 0) (h.contents ∙ tens_become) in
    omega arith

-- ---- one that invents n

pub tells_another_n : (n : ℕ) (after : List ℕ) → n ≢ 137 → Normalise paper tens 137 lent (Ok n) after → ⊥
tells_another_n n after d h = let e = normalise_answer h ∙ answer in d cc
