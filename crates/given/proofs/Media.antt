-- Bits and values as sources: what is at hand for a field is what the source gives, and where none is, which of 5, 12 and 13 it says. Assumes nothing.
use mathlib.Core.Bool.{Bool, true, false}
use mathlib.Core.List.{List, [], ◌∷◌, ◌++◌}
use mathlib.Core.Path.{◌≡◌, refl, sym, ap, ◌∙◌, subst}
use Prim.Native.Nat.{ℕ, ◌+◌, ◌^◌, ◌≤◌, ◌<◌}
use native.Mathlib.Omega.{arith}
use borrow.Author.Tests.{leb-false, lt-leb, ltb-true, ltb-false, lt-ltb, le-ltb}
use lib.Dec.{leb, ltb}
use lib.ListN.{length, length-append, take, drop}
use Rattle.bits.specs.Bits.{Below, digits, value_of}
use Rattle.bits.proofs.Digits.{length_digits}
use Rattle.format.specs.Rules.{State, field, past}
use Rattle.format.specs.Telegrams.{Entry, Taken, got_if, fitted, from_bits, from_values, values_in, bits, all, bit_count, Fits}
use Rattle.format.specs.Telegrams.Taken.{got, lacks}
use Rattle.format.specs.declared.Kind.TheVariants.{Ended, Wide, Full}
use Rattle.laws.proofs.Sources.{Sent, Listed, from_bits_lem, from_values_lem, bits_in_entry}
use Rattle.laws.proofs.Demand2.{length_bits}
use Rattle.given.specs.Broken.{Medium, part_in, NextIs, Ends}
use Rattle.given.specs.Broken.Medium.{in_bits, in_values}

abbrev pub source_in : Medium → State → List ℕ → Taken
source_in in_bits s xs = from_bits s xs
source_in in_values s xs = from_values s xs

-- what may be left: bits that end by bit 830; any values
abbrev pub GoodIn : Medium → State → List ℕ → Type 0
GoodIn in_bits s xs = Sent s xs
GoodIn in_values s xs = Listed s xs

-- a whole source
abbrev pub Sound : Medium → List ℕ → Type 0
Sound in_bits xs = Below 2 xs × (length xs ≤ 830)
Sound in_values xs = Unit

below_behind : (xs ys : List ℕ) → Below 2 (xs ++ ys) → Below 2 ys
below_behind [] ys b = b
below_behind (x ∷ xs) ys b = below_behind xs ys b.1

pub sound_good : (m : Medium) (whole : List ℕ) → Sound m whole → (es : List Entry) (s : State) (left : List ℕ) → s.at ≡ bit_count es
    → whole ≡ all (part_in m) es ++ left → GoodIn m s left
sound_good in_bits whole g es s left a e =
    let b : Below 2 (bits es ++ left) = subst (Below 2) e g.0 in
    let n : length whole ≡ length (bits es) + length left = ap length e ∙ length-append (bits es) left in
    let l = length_bits es in
    record { bits = below_behind (bits es) left b; room = omega (arith, g.1) }
sound_good in_values whole g es s left a e = tt

-- a value that is given is at hand, and fits
pub given_hand : (m : Medium) (s : State) (v : ℕ) (left ys : List ℕ) → GoodIn m s left → source_in m s left ≡ got v ys → NextIs m (field s) left v ys × Fits s v
unfolding values_in
given_hand in_bits s v left ys g e =
    let h = from_bits_lem.taken s v left ys g e in
    ((h.fits.small, h.front ∙ ap (λ (l : List ℕ). l ++ ys) (bits_in_entry s v)), h.fits)
given_hand in_values s v left ys g e = let h = from_values_lem.taken s v left ys g e in (h.front, h.fits)

-- a value that is at hand and fits is given
pub hand_given : (m : Medium) (s : State) (v : ℕ) (left ys : List ℕ) → NextIs m (field s) left v ys → Fits s v → source_in m s left ≡ got v ys
unfolding values_in
hand_given in_bits s v left ys h f = rw (h.1, ← (bits_in_entry s v)) (from_bits_lem.gives s v ys f)
hand_given in_values s v left ys h f = rw h (from_values_lem.gives s v ys f)

-- where one is given, no other is at hand
pub one_hand : (m : Medium) (s : State) (v u : ℕ) (left ys zs : List ℕ) → GoodIn m s left → source_in m s left ≡ got v ys → NextIs m (field s) left u zs → u ≡ v
one_hand in_bits s v u left ys zs g e h =
    let f = (given_hand in_bits s v left ys g e).1 in
    let i = hand_given in_bits s u left zs h (record { small = h.0; room = f.room }) in
    let j : got u zs ≡ got v ys = sym i ∙ e in
    cc
one_hand in_values s v u left ys zs g e h = let f = (given_hand in_values s v left ys g e).0 in let j : u ∷ zs ≡ v ∷ ys = sym h ∙ f in cc

-- 5
pub ends_lacks : (m : Medium) (s : State) (left : List ℕ) → Ends m (field s) left → source_in m s left ≡ lacks Ended
unfolding from_bits from_values
ends_lacks in_bits s left e = rw (lt-leb (field s).width (length left) e)
ends_lacks in_values s left e = rw e

pub lacks_ends : (m : Medium) (s : State) (left : List ℕ) → source_in m s left ≡ lacks Ended → Ends m (field s) left
unfolding from_bits from_values
lacks_ends in_bits s left e = by_test (leb (field s).width (length left)) refl e
  where
    by_test : (b : Bool) → leb (field s).width (length left) ≡ b
        → got_if b Ended (value_of (take (field s).width left)) (drop (field s).width left) ≡ lacks Ended
        → length left < (field s).width
    by_test true i h = let z : ◌≡◌ {A = ℕ} 0 1 = cc in absurd (omega arith)
    by_test false i h = leb-false (field s).width (length left) i
lacks_ends in_values s [] e = refl
lacks_ends in_values s (v ∷ vs) e = by_tests (ltb v (2 ^ (field s).width)) (leb (past s) 830) e
  where
    by_tests : (a b : Bool) → fitted a b v vs ≡ lacks Ended → v ∷ vs ≡ []
    by_tests true true h = cc
    by_tests true false h = cc
    by_tests false b h = cc

-- 12
pub wide_lacks : (m : Medium) (s : State) (v : ℕ) (left rest : List ℕ) → NextIs m (field s) left v rest → 2 ^ (field s).width ≤ v
    → source_in m s left ≡ lacks Wide
unfolding from_values
wide_lacks in_bits s v left rest h l = let i = h.0 in absurd (omega arith)
wide_lacks in_values s v left rest h l = rw (h, le-ltb v (2 ^ (field s).width) l)

pub record Wider (m : Medium) (s : State) (left : List ℕ) : Type 0 where
  pub value : ℕ
  pub rest : List ℕ
  pub hand : NextIs m (field s) left value rest
  pub wide : 2 ^ (field s).width ≤ value

pub lacks_wide : (m : Medium) (s : State) (left : List ℕ) → source_in m s left ≡ lacks Wide → Wider m s left
unfolding from_bits from_values
lacks_wide in_bits s left e = by_test (leb (field s).width (length left)) e
  where
    by_test : (b : Bool) → got_if b Ended (value_of (take (field s).width left)) (drop (field s).width left) ≡ lacks Wide → Wider in_bits s left
    by_test true h = let z : ◌≡◌ {A = ℕ} 0 1 = cc in absurd (omega arith)
    by_test false h = let z : ◌≡◌ {A = ℕ} 0 1 = cc in absurd (omega arith)
lacks_wide in_values s [] e = let z : ◌≡◌ {A = ℕ} 0 1 = cc in absurd (omega arith)
lacks_wide in_values s (v ∷ vs) e = by_tests (ltb v (2 ^ (field s).width)) (leb (past s) 830) refl e
  where
    by_tests : (a b : Bool) → ltb v (2 ^ (field s).width) ≡ a → fitted a b v vs ≡ lacks Wide → Wider in_values s (v ∷ vs)
    by_tests true true i h = let z : ◌≡◌ {A = ℕ} 0 1 = cc in absurd (omega arith)
    by_tests true false i h = let z : ◌≡◌ {A = ℕ} 0 1 = cc in absurd (omega arith)
    by_tests false b i h = record { value = v; rest = vs; hand = refl; wide = ltb-false v (2 ^ (field s).width) i }

-- 13
pub record Fuller (m : Medium) (s : State) (left : List ℕ) : Type 0 where
  pub value : ℕ
  pub rest : List ℕ
  pub hand : NextIs m (field s) left value rest
  pub small : value < 2 ^ (field s).width
  pub full : 830 < past s

pub lacks_full : (m : Medium) (s : State) (left : List ℕ) → source_in m s left ≡ lacks Full → Fuller m s left
unfolding from_bits from_values
lacks_full in_bits s left e = by_test (leb (field s).width (length left)) e
  where
    by_test : (b : Bool) → got_if b Ended (value_of (take (field s).width left)) (drop (field s).width left) ≡ lacks Full → Fuller in_bits s left
    by_test true h = let z : ◌≡◌ {A = ℕ} 0 1 = cc in absurd (omega arith)
    by_test false h = let z : ◌≡◌ {A = ℕ} 0 1 = cc in absurd (omega arith)
lacks_full in_values s [] e = let z : ◌≡◌ {A = ℕ} 0 1 = cc in absurd (omega arith)
lacks_full in_values s (v ∷ vs) e = by_tests (ltb v (2 ^ (field s).width)) (leb (past s) 830) refl refl e
  where
    by_tests : (a b : Bool) → ltb v (2 ^ (field s).width) ≡ a → leb (past s) 830 ≡ b → fitted a b v vs ≡ lacks Full → Fuller in_values s (v ∷ vs)
    by_tests true true i j h = let z : ◌≡◌ {A = ℕ} 0 1 = cc in absurd (omega arith)
    by_tests true false i j h = record { value = v; rest = vs; hand = refl; small = ltb-true v (2 ^ (field s).width) i; full = leb-false (past s) 830 j }
    by_tests false b i j h = let z : ◌≡◌ {A = ℕ} 0 1 = cc in absurd (omega arith)

-- where a value is at hand that fits, and the field ends past bit 830
pub full_source : (m : Medium) (s : State) (v : ℕ) (left rest : List ℕ) → GoodIn m s left → NextIs m (field s) left v rest → v < 2 ^ (field s).width
    → 830 < past s
    → source_in m s left ≡ lacks Full
unfolding from_values
full_source in_bits s v left rest g h l n =
    let w = (field s).width in
    let e : length left ≡ length (digits w v) + length rest = ap length h.1 ∙ length-append (digits w v) rest in
    let d = length_digits w v in
    let r = g.room in
    absurd (omega arith)
full_source in_values s v left rest g h l n = rw (h, lt-ltb v (2 ^ (field s).width) l, lt-leb (past s) 830 n)
