-- A window of four bytes, shifted so that the bits from a place on stand in front: the fields in it. Assumes nothing.
use mathlib.Core.Path.{◌≡◌, sym, ◌∙◌}
use mathlib.Core.List.{List}
use Prim.Native.Nat.{ℕ, ◌+◌, ◌-◌, ◌*◌, ◌/◌, ◌%◌, ◌^◌, ◌≤◌, ◌<◌}
use native.Mathlib.Nat.{mod-lt, add_comm}
use native.Mathlib.Omega.{arith}
use lib.ListN.{length}
use lib.Pow.{shl-shr, shr-shr, field, mod-mod-pow}
use Rattle.bits.specs.Bits.{value_of}
use Rattle.bits.specs.Take.{field_bits}
use Rattle.bits.proofs.Fields.{field_in_field}

-- a part of a number that was moved up by d bits, of which the highest o bits are passed and l bits stand below in the number itself
moved_part : (v d o b l : ℕ) → v * 2 ^ d % 2 ^ (o + b + (l + d)) / 2 ^ (l + d) % 2 ^ b ≡ v / 2 ^ l % 2 ^ b
moved_part v d o b l =
    rw (field (v * 2 ^ d) (o + b) (l + d), mod-mod-pow (v * 2 ^ d / 2 ^ (l + d)) o b, add_comm l d, ← (shr-shr (v * 2 ^ d) d l), shl-shr v d)

-- in 32 bits
moved_near : (v d o b l h : ℕ) → h ≡ l + d → o + b + (l + d) ≡ 32 → v * 2 ^ d % 2 ^ 32 / 2 ^ h % 2 ^ b ≡ v / 2 ^ l % 2 ^ b
moved_near v d o b l h e f = rw e (rw f at (moved_part v d o b l))

-- the bits from a place on, as a number of 32 bits, of which 25 are sure
pub record Near (s : List ℕ) (at w : ℕ) : Type 0 where
  pub small : w < 2 ^ 32
  pub part : (o b : ℕ) → o + b ≤ 25 → w / 2 ^ (32 - (o + b)) % 2 ^ b ≡ value_of (field_bits s b (at + o))

pub near_is : (s : List ℕ) (at : ℕ) → at / 8 + 4 ≤ length s → {w : ℕ} → w ≡ value_of (field_bits s 32 (8 * (at / 8))) * 2 ^ (at % 8) % 2 ^ 32
    → Near s at w
near_is s at long e =
    record {
      small = rw e (mod-lt _ (omega arith));
      part = λ o b h.
          let d = at % 8 in
          let l = 32 - (o + b) - d in
          let f : 32 - (o + b) ≡ l + d = omega arith in
          let g : o + b + (l + d) ≡ 32 = omega arith in
          let i : d + o + (b + l) ≡ 32 = omega arith in
          let a : 8 * (at / 8) + (d + o) ≡ at + o = omega arith in
          let p = field_in_field s (8 * (at / 8)) (d + o) b l (omega arith) in
          rw e (moved_near (value_of (field_bits s 32 (8 * (at / 8)))) d o b l (32 - (o + b)) f g ∙ sym (rw (i, a) at p));
    }
