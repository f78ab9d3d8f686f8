-- Readers that cheat, and for each a telegram at which its answer does not meet the promise: the checker computes what the definitions
-- answer there. Assumes nothing.
use Rattle.std.specs.Prelude.{Ok, Err}
use mathlib.Core.Bool.{Bool, true, false, cond, ◌&&◌}
use mathlib.Core.List.{List, [], ◌∷◌, ◌++◌}
use mathlib.Core.Logic.{◌≢◌}
use mathlib.Core.Path.{◌≡◌, refl, sym, ap, ◌∙◌}
use Prim.Native.Nat.{ℕ, zero, suc, ◌+◌}
use native.Mathlib.Omega.{arith}
use lib.Dec.{eqb}
use lib.ListN.{length, take, drop, get_or, replicate}
use Rattle.bits.specs.Bits.{digits, value_of, bits_of}
use Rattle.format.specs.Packets.{◌⧺◌, times, header, etcs, ctcs, find}
use Rattle.format.specs.Refusals.{in_numbers}
use Rattle.format.specs.Rules.{begun, next, misdirected, broken, noted, closes, settled, onward, step, radio_from, spot_of, spot_at, place_from, field_place, clash, among, collides_by, paper}
use Rattle.format.specs.Telegrams.{Result, read, from_bits, drive, values_in}
use Rattle.format.specs.Telegrams.Result.{accepted, refused}
use Rattle.format.specs.declared.Kind.TheVariants.{Length}
use Rattle.format.specs.declared.Refusal.{Refusal}
use Rattle.format.proofs.Numbers.{answer_is}
use Rattle.states.specs.Reader.{checked, read_into, answer_of, values_over, Read}

-- what the check answers, computed
unfoldable computed : List ℕ → ℕ → Result
unfolding checked read drive begun from_bits bits_of digits value_of step next find etcs ctcs header times ◌⧺◌ broken misdirected noted settled onward closes radio_from spot_of spot_at place_from field_place collides_by among clash
computed s n = checked paper s n

-- a header and the end mark, 58 bits, with NID_BG 4100 and with 4101
abbrev one : List ℕ
one = 0x90 ∷ 0x14 ∷ 0x0F ∷ 0x02 ∷ 0xA8 ∷ 0x02 ∷ 0x3F ∷ 0xC0 ∷ []

abbrev another : List ℕ
another = 0x90 ∷ 0x14 ∷ 0x0F ∷ 0x02 ∷ 0xA8 ∷ 0x02 ∷ 0xBF ∷ 0xC0 ∷ []

one_accepted : answer_of (checked paper one 58) ≡ Ok 11
unfolding computed values_in
one_accepted = refl

-- ---- one that refuses everything

pub refuses_everything : (why : List ℕ → ℕ → Refusal) → ((s : List ℕ) (n : ℕ) → in_numbers (Err (why s n)) ≡ in_numbers (answer_of (checked paper s n))) → ⊥
refuses_everything why h = let e = answer_is (Err (why one 58)) _ (h one 58) ∙ one_accepted in let z : ◌≡◌ {A = ℕ} 0 1 = cc in omega arith

-- ---- one that invents the count

pub invents_the_count : (k : ℕ) → k ≢ 11 → in_numbers (Ok k) ≡ in_numbers (answer_of (checked paper one 58)) → ⊥
invents_the_count k d h = let e = answer_is (Ok k) _ h ∙ one_accepted in d cc

-- ---- one that stores the same values whatever it reads

-- a run that is long enough
abbrev lent : List ℕ
lent = replicate 830 0

pub stores_the_same : (vs : List ℕ)
    → ((s : List ℕ) (n count : ℕ) (before after : List ℕ) → Read paper s n before (Ok count) after → after ≡ vs ++ drop (length vs) before) → ⊥
unfolding computed read_into values_in
stores_the_same vs h =
    let a = h one 58 11 lent (values_over (checked paper one 58) lent) (record { answers = refl; contents = refl }) in
    let b = h another 58 11 lent (values_over (checked paper another 58) lent) (record { answers = refl; contents = refl }) in
    let z : ◌≡◌ {A = ℕ} 4100 4101 = ap (λ (l : List ℕ). get_or l 8 0) (a ∙ sym b) in
    omega arith

-- ---- one that reads the first packet and steps over the rest by L_PACKET

-- the L_PACKET of the packet that the bits begin with
abbrev stated : List ℕ → ℕ
stated bs = value_of (take 13 (drop 10 bs))

-- from packet to packet, up to an end mark that nothing follows
unfoldable pub steps : ℕ → List ℕ → Bool
steps zero bs = false
steps (suc k) bs = cond (eqb (value_of (take 8 bs)) 255) (eqb (length bs) 8) (steps k (drop (stated bs) bs))

abbrev passes : Result → Bool
passes (accepted es) = true
passes (refused r) = false

-- the header and the first packet would be a telegram with an end mark, and the rest is stepped over
unfoldable pub skims : List ℕ → Bool
skims bs =
    let first = 50 + stated (drop 50 bs) in
    passes (read paper (take first bs ++ digits 8 255)) && steps (length bs) (drop first bs)

-- ETCS-132 as it should be; ETCS-254 with L_PACKET 31 and 8 bits that no table has; the end mark
abbrev unread : List ℕ
unread = 0x90 ∷ 0x14 ∷ 0x0F ∷ 0x02 ∷ 0xA8 ∷ 0x02 ∷ 0x21 ∷ 0x10 ∷ 0x0C ∷ 0x3F ∷ 0xA0 ∷ 0x0F ∷ 0xD2 ∷ 0xFF ∷ 0x80 ∷ []

unread_skimmed : skims (take 113 (bits_of unread)) ≡ true
unfolding computed skims steps
unread_skimmed = refl

unread_refused : checked paper unread 113 ≡ refused (record { kind = Length; place = 84 })
unfolding computed
unread_refused = refl

pub skips_the_rest : ((s : List ℕ) (n : ℕ) → skims (take n (bits_of s)) ≡ true → (count : ℕ) × (in_numbers (Ok count) ≡ in_numbers (answer_of (checked paper s n)))) → ⊥
skips_the_rest h =
    let a = h unread 113 unread_skimmed in
    let e = answer_is (Ok a.0) _ a.1 ∙ ap answer_of unread_refused in
    let z : ◌≡◌ {A = ℕ} 0 1 = cc in
    omega arith
