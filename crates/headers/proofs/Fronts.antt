-- The first 32 bits of a telegram as a window of four bytes, and the header's numbers inside them. Assumes nothing.
use mathlib.Core.Bool.{Bool, true, false, ◌&&◌}
use mathlib.Core.List.{List}
use mathlib.Core.Path.{◌≡◌, refl, sym, ap, ◌∙◌}
use Prim.Native.Nat.{ℕ, ◌+◌, ◌-◌, ◌*◌, ◌/◌, ◌%◌, ◌^◌, ◌≤◌, ◌<◌}
use native.Mathlib.Nat.{lt_of_not-le, zero-div, zero-mod}
use native.Mathlib.Decide.{dec_le}
use native.Mathlib.Omega.{arith}
use borrow.Author.Tests.{lt-leb}
use lib.Dec.{leb}
use lib.ListN.{length, take, drop, get_or, length-drop}
use lib.Seq.{take_all}
use Rattle.std.proofs.lemmas.List.{get_or-drop}
use Rattle.bits.specs.Bits.{value_of}
use Rattle.bits.specs.Take.{field_bits, inside}
use Rattle.bits.proofs.Fields.{field_in_field, take_outside}
use Rattle.bits.proofs.Windows.{window_is}
use Rattle.headers.specs.Headers.{number_or0, number_at, front_of}
use Rattle.headers.proofs.Numbers.{number_is}

-- where there are not 58 bits, no number of a header is there
and_false : (a b : Bool) → (a && b && false) ≡ false
and_false true true = refl
and_false true false = refl
and_false false b = refl

pub number_short_bytes : (u : List ℕ) (bit width : ℕ) → 8 * length u < 58 → 0 ≡ number_at u 58 bit width
number_short_bytes u bit width h =
    let e : leb 58 (8 * length u) ≡ false = lt-leb 58 (8 * length u) h in
    let f : inside u 58 width bit ≡ false = rw e (and_false (leb width 64) (leb (bit + width) 58)) in
    sym (ap number_or0 (take_outside u 58 width bit f))

module _ (s : List ℕ) (start : ℕ) where
  pub front_outside : length s < start → 0 ≡ front_of (drop start s)
  front_outside h = let l = length-drop start s in number_short_bytes (drop start s) 0 32 (omega arith)

  pub front_short : length s - start < 8 → 0 ≡ front_of (drop start s)
  front_short h = let l = length-drop start s in number_short_bytes (drop start s) 0 32 (omega arith)

  -- of what lies from the byte start on, if it has eight bytes
  pub front_window : (u : List ℕ) → u ≡ take (length s - start) (drop start s) → 8 ≤ length u → ((i : ℕ) → get_or s i 0 < 2 ^ 8) → (w : ℕ)
      → w ≡ ((get_or u 0 0 * 2 ^ 8 + get_or u 1 0) * 2 ^ 8 + get_or u 2 0) * 2 ^ 8 + get_or u 3 0 → w ≡ front_of (drop start s)
  front_window u q h byte w e =
      let l = length-drop start s in
      let r : u ≡ drop start s = q ∙ take_all (length s - start) (drop start s) (omega arith) in
      let n : length u ≡ length (drop start s) = ap length r in
      let each : (i : ℕ) → get_or u i 0 < 2 ^ 8 = λ i. rw (r, get_or-drop start s i 0) (byte (start + i)) in
      e ∙ window_is u 0 (omega arith) each ∙ sym (number_is u 58 0 32 (omega arith) (omega arith) (omega arith)) ∙ ap front_of r

-- a number of the header inside them
pub front_part : (u : List ℕ) (o w low : ℕ) → o + (w + low) ≡ 32 → w ≤ 64 → front_of u / 2 ^ low % 2 ^ w ≡ number_at u 58 o w
front_part u o w low e few = by_room (dec_le 58 (8 * length u))
  where
    by_room : Dec (58 ≤ 8 * length u) → front_of u / 2 ^ low % 2 ^ w ≡ number_at u 58 o w
    by_room (yes h) =
        let z : 0 + o ≡ o = omega arith in
        ap (λ (x : ℕ). x / 2 ^ low % 2 ^ w) (number_is u 58 0 32 (omega arith) (omega arith) h ∙ ap (λ (x : ℕ). value_of (field_bits u x 0)) (sym e))
        ∙ sym (field_in_field u 0 o w low (omega arith))
        ∙ ap (λ (x : ℕ). value_of (field_bits u w x)) z
        ∙ sym (number_is u 58 o w few (omega arith) h)
    by_room (no h) =
        let l = lt_of_not-le h in
        ap (λ (x : ℕ). x / 2 ^ low % 2 ^ w) (sym (number_short_bytes u 0 32 l)) ∙ none_left ∙ number_short_bytes u o w l
      where
        none_left : 0 / 2 ^ low % 2 ^ w ≡ 0
        none_left = ap (λ (x : ℕ). x % 2 ^ w) (zero-div (2 ^ low)) ∙ zero-mod (2 ^ w)
