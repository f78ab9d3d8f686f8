-- What lies ahead in a window of eight bytes: its number, and the fields in it. Assumes nothing.
use Rattle.std.specs.Prelude.{Some, None, Option}
use Rattle.bits.proofs.Pairs.{held_both}
use mathlib.Core.Path.{◌≡◌, refl, sym, ap, ◌∙◌}
use mathlib.Core.List.{List}
use mathlib.Core.Bool.{Bool, true, false, ◌&&◌}
use Prim.Native.Nat.{ℕ, ◌+◌, ◌-◌, ◌*◌, ◌/◌, ◌%◌, ◌^◌, ◌≤◌, ◌<◌}
use native.Mathlib.Nat.{mod-lt, add_comm}
use native.Mathlib.Omega.{arith}
use borrow.Author.Tests.{leb-true}
use lib.Dec.{leb}
use lib.ListN.{length, drop}
use lib.Seq.{take-add, drop-drop}
use lib.Pow.{shl-shr, shr-shr, field, mod-mod-pow}
use Rattle.bits.specs.Bits.{value_of, bits_of}
use Rattle.bits.specs.Take.{inside, field_bits, taken_if}
use Rattle.bits.specs.Ahead.{window_byte, window_at, behind, in_sight, ahead_at}
use Rattle.bits.specs.declared.Cursor.{Cursor}
use Rattle.bits.proofs.Digits.{value_of_append}
use Rattle.bits.proofs.Fields.{inside_field, field_in_field, length_field_bits}

-- two fields side by side as one
pub fields_joined : (s : List ℕ) (at a b : ℕ) → at + (a + b) ≤ 8 * length s
    → value_of (field_bits s a at) * 2 ^ b + value_of (field_bits s b (at + a)) ≡ value_of (field_bits s (a + b) at)
fields_joined s at a b h =
    sym (rw (take-add a b (drop at (bits_of s)), drop-drop a at (bits_of s), value_of_append) (rw (length_field_bits s b (at + a) (omega arith))))

-- ---- the fields in a window

-- moved up by o bits in a number of b + (l + o) bits, and down again
moved : (w o b l : ℕ) → w * 2 ^ o % 2 ^ (b + (l + o)) / 2 ^ (l + o) ≡ w / 2 ^ l % 2 ^ b
moved w o b l = rw (field (w * 2 ^ o) b (l + o), add_comm l o, ← (shr-shr (w * 2 ^ o) o l), shl-shr w o)

-- in 64 bits
pub behind_is : (w o b l : ℕ) → o + (b + l) ≡ 64 → behind w o b ≡ w / 2 ^ l % 2 ^ b
behind_is w o b l e =
    let f : b + (l + o) ≡ 64 = omega arith in
    let g : l + o ≡ 64 - b = omega arith in
    rw (f, g) at (moved w o b l)

-- a part of a number that was moved up by d bits
part_moved : (v d o b l : ℕ) → v * 2 ^ d % 2 ^ (o + b + (l + d)) / 2 ^ (l + d) % 2 ^ b ≡ v / 2 ^ l % 2 ^ b
part_moved v d o b l =
    rw (field (v * 2 ^ d) (o + b) (l + d), mod-mod-pow (v * 2 ^ d / 2 ^ (l + d)) o b, add_comm l d, ← (shr-shr (v * 2 ^ d) d l), shl-shr v d)

behind_moved : (v d o b l : ℕ) → d + (o + (b + l)) ≡ 64 → behind (v * 2 ^ d % 2 ^ 64) o b ≡ v / 2 ^ l % 2 ^ b
behind_moved v d o b l e =
    let f : o + b + (l + d) ≡ 64 = omega arith in
    behind_is (v * 2 ^ d % 2 ^ 64) o b (l + d) (omega arith) ∙ rw f at (part_moved v d o b l)

-- A number of 64 bits in which the bits of s from the bit at on stand in front: the first 57, as far as s has them.
pub record Ahead (s : List ℕ) (at w : ℕ) : Type 0 where
  pub small : w < 2 ^ 64
  pub part : (o b : ℕ) → o + b ≤ 57 → at + (o + b) ≤ 8 * length s → behind w o b ≡ value_of (field_bits s b (at + o))

module _ (s : List ℕ) (at : ℕ) (long : 8 ≤ length s) (here : at < 8 * length s) where
  pub window_inside : window_byte s at + 8 ≤ length s
  window_inside = omega arith

  pub window_near : (8 * window_byte s at ≤ at) × (at - 8 * window_byte s at < 64)
  window_near = (omega arith, omega arith)

  pub ahead_is : Ahead s at (window_at s at)
  ahead_is = record { small = mod-lt _ (omega arith); part = parts }
    where
      parts : (o b : ℕ) → o + b ≤ 57 → at + (o + b) ≤ 8 * length s → behind (window_at s at) o b ≡ value_of (field_bits s b (at + o))
      parts o b h room =
          let k = window_byte s at in
          let d = at - 8 * k in
          let l = 64 - (d + (o + b)) in
          let e : d + (o + (b + l)) ≡ 64 = omega arith in
          let g : d + o + (b + l) ≡ 64 = omega arith in
          let a : 8 * k + (d + o) ≡ at + o = omega arith in
          let p = field_in_field s (8 * k) (d + o) b l (omega arith) in
          behind_moved (value_of (field_bits s 64 (8 * k))) d o b l e ∙ sym (rw (g, a) at p)

-- ---- what the cursor finds

-- a window that was taken
pub record IsAhead (s : List ℕ) (n bits at w next : ℕ) : Type 0 where
  pub some : 1 ≤ bits
  pub few : bits ≤ 57
  pub long : 8 ≤ length s
  pub within : at + bits ≤ n
  pub room : n ≤ 8 * length s
  pub ahead : Ahead s at w
  pub past : next ≡ at + bits

module _ (s : List ℕ) (n bits at : ℕ) where
  by_tests : (w : ℕ) (c : Cursor) (p q r t : Bool) → leb 1 bits ≡ p → leb bits 57 ≡ q → leb 8 (length s) ≡ r → inside s n bits at ≡ t
      → taken_if (p && q && r && t) (Some (window_at s at, record { at = at + bits })) ≡ Some (w, c) → IsAhead s n bits at w c.at
  by_tests w c true true true true hp hq hr ht e =
      let found : ◌≡◌ {A = Option (ℕ × Cursor)} (Some (window_at s at, record { at = at + bits })) (Some (w, c)) = cc in
      let (ew, ec) = held_both _ _ _ _ found in
      let f = inside_field s n bits at ht in
      let low = leb-true 1 bits hp in
      let a = f.within in
      let b = f.room in
      record {
        some = low;
        few = leb-true bits 57 hq;
        long = leb-true 8 (length s) hr;
        within = a;
        room = b;
        ahead = rw (← ew) (ahead_is s at (leb-true 8 (length s) hr) (omega arith));
        past = sym (ap (λ (x : Cursor). x.at) ec);
      }
  by_tests w c true true true false hp hq hr ht e = let z : ◌≡◌ {A = ℕ} 0 1 = cc in absurd (omega arith)
  by_tests w c true true false t hp hq hr ht e = let z : ◌≡◌ {A = ℕ} 0 1 = cc in absurd (omega arith)
  by_tests w c true false r t hp hq hr ht e = let z : ◌≡◌ {A = ℕ} 0 1 = cc in absurd (omega arith)
  by_tests w c false q r t hp hq hr ht e = let z : ◌≡◌ {A = ℕ} 0 1 = cc in absurd (omega arith)

  pub sighted : (w : ℕ) (c : Cursor) → ahead_at s n bits at ≡ Some (w, c) → IsAhead s n bits at w c.at
  unfolding ahead_at
  sighted w c e = by_tests w c (leb 1 bits) (leb bits 57) (leb 8 (length s)) (inside s n bits at) refl refl refl refl e

  -- by the one test of the definition
  pub seen : in_sight s n bits at ≡ true → IsAhead s n bits at (window_at s at) (at + bits)
  unfolding ahead_at
  seen e = sighted _ (record { at = at + bits }) (rw e)

  pub sight_ends : in_sight s n bits at ≡ false → ahead_at s n bits at ≡ None
  unfolding ahead_at
  sight_ends e = rw e

  pub sight_goes : in_sight s n bits at ≡ true → ahead_at s n bits at ≡ Some (window_at s at, record { at = at + bits })
  unfolding ahead_at
  sight_goes e = rw e
