-- What a look for a number in bytes finds: the number where its bits are there, and 0 where they are not. Assumes nothing.
use Rattle.std.specs.Prelude.{Some, ℕ}
use mathlib.Core.Bool.{Bool, true, false}
use mathlib.Core.List.{List, [], ◌∷◌}
use mathlib.Core.Path.{◌≡◌, refl, sym, ap, ◌∙◌}
use Prim.Native.Nat.{ℕ, zero, suc, ◌+◌, ◌-◌, ◌*◌, ◌≤◌, ◌<◌}
use native.Mathlib.Omega.{arith}
use lib.Dec.{leb}
use lib.ListN.{length, take, drop, length-drop}
use Rattle.bits.specs.Bits.{bits_of, bytes_for, value_of}
use Rattle.bits.specs.Take.{field_bits, inside, taken_if, taken_at}
use Rattle.bits.proofs.Fields.{take_whole, room_by_bytes}
use Rattle.headers.specs.Headers.{number_or0, number_at}

pub drop_all : (k : ℕ) (s : List ℕ) → length s ≤ k → drop k s ≡ []
drop_all zero [] h = refl
drop_all zero (x ∷ s) h = absurd (omega arith)
drop_all (suc k) [] h = refl
drop_all (suc k) (x ∷ s) h = drop_all k s (omega arith)

take_none : (k : ℕ) → ◌≡◌ {A = List ℕ} (take k []) []
take_none zero = refl
take_none (suc k) = refl

-- no number stands in no bytes
pub number_none : (n bit width : ℕ) → 0 ≡ number_at [] n bit width
unfolding taken_at bits_of value_of
number_none n bit width = by_test (inside [] n width bit)
  where
    by_test : (b : Bool) → 0 ≡ number_or0 (taken_if b (Some (value_of (take width (drop bit [])), record { at = bit + width })))
    by_test true = sym (ap value_of (ap (take width) (drop_all bit [] (omega arith)) ∙ take_none width))
    by_test false = refl

-- where its bits are there, it is theirs
pub number_is : (u : List ℕ) (n bit width : ℕ) → width ≤ 64 → bit + width ≤ n → n ≤ 8 * length u → number_at u n bit width ≡ value_of (field_bits u width bit)
number_is u n bit width h k l = ap number_or0 (take_whole u n width bit h k l)

module _ (s : List ℕ) (start n bit width : ℕ) where
  pub number_outside : length s < start → 0 ≡ number_at (drop start s) n bit width
  number_outside h = number_none n bit width ∙ ap (λ (u : List ℕ). number_at u n bit width) (sym (drop_all start s (omega arith)))

-- ---- whether so many bits lie there

pub room_inside : (s : List ℕ) (start n : ℕ) → leb (bytes_for n) (length s - start) ≡ leb n (8 * length (drop start s))
room_inside s start n = room_by_bytes n (length s - start) ∙ ap (λ (k : ℕ). leb n (8 * k)) (sym (length-drop start s))
