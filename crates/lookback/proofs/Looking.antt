-- Looking back from head to head, NID_PACKET and Q_DIR of each as one number: one that does not pass the test does not collide. Assumes nothing.
use mathlib.Core.Bool.{Bool, true, false, ◌&&◌}
use mathlib.Core.List.{List}
use mathlib.Core.Path.{◌≡◌, refl, sym, ap, ◌∙◌}
use Prim.Native.Nat.{ℕ, zero, suc, ◌+◌, ◌-◌, ◌*◌, ◌/◌, ◌%◌, ◌^◌, ◌≤◌, ◌<◌}
use native.Mathlib.Nat.{zero-add, not-le_of_lt}
use native.Mathlib.Omega.{arith}
use borrow.Author.Tests.{eqb-true, ltb-false}
use lib.Bits.{bit_xor, xor_self, xor_block, xor_lt}
use lib.Dec.{eqb, ltb}
use lib.ListN.{length}
use Rattle.bits.specs.Bits.{value_of}
use Rattle.bits.specs.Take.{field_bits}
use Rattle.bits.proofs.Fields.{field_in_field, field_lt, take_whole, take_past}
use Rattle.format.specs.Rules.{clash, among}
use Rattle.laws.proofs.Recalled.{among_more}
use Rattle.states.specs.Lookback.{packets_before, id_in, dir_in, long_in, hopped}
use Rattle.states.proofs.Hopping.{Hopping, hopped_head, hops_end}
use Rattle.lookback.proofs.Window.{Near}

-- true is not false
pub unlike : {X : Type 0} → true ≡ false → X
unlike e = let z : ◌≡◌ {A = ℕ} 0 1 = cc in absurd (omega arith)

-- ---- colliding, in ten bits

-- the high parts are the same, and fall away
same_high : (q d e : ℕ) → d < 4 → e < 4 → bit_xor (q * 2 ^ 2 + d) (q * 2 ^ 2 + e) ≡ bit_xor d e
same_high q d e hd he = xor_block 2 q q d e hd he ∙ ap (λ (x : ℕ). x * 2 ^ 2 + bit_xor d e) (xor_self q) ∙ zero-add (bit_xor d e)

low_test : (d e : ℕ) → e < 4 → clash d e ≡ true → bit_xor (2 + d % 2) e < 3 + d / 2
unfolding clash
low_test zero zero k c = omega arith
low_test zero (suc zero) k c = let z : ◌≡◌ {A = ℕ} 0 1 = cc in absurd (omega arith)
low_test zero (suc (suc zero)) k c = omega arith
low_test zero (suc (suc (suc zero))) k c = omega arith
low_test zero (suc (suc (suc (suc e)))) k c = absurd (omega arith)
low_test (suc zero) zero k c = let z : ◌≡◌ {A = ℕ} 0 1 = cc in absurd (omega arith)
low_test (suc zero) (suc zero) k c = omega arith
low_test (suc zero) (suc (suc zero)) k c = omega arith
low_test (suc zero) (suc (suc (suc zero))) k c = omega arith
low_test (suc zero) (suc (suc (suc (suc e)))) k c = absurd (omega arith)
low_test (suc (suc d)) e k c = let l = xor_lt 2 (2 + suc (suc d) % 2) e (omega arith) k in omega arith

-- a head that collides with this packet passes the test: m is its NID_PACKET and Q_DIR
clash_xor : (id dir m : ℕ) → m < 2 ^ 10 → (eqb id (m / 4) && clash dir (m % 4)) ≡ true
    → bit_xor (id * 2 ^ 2 % 2 ^ 64 + (2 + dir % 2)) m < 3 + dir / 2
clash_xor id dir m small e = by_parts (eqb id (m / 4)) (clash dir (m % 4)) refl refl e
  where
    by_parts : (a b : Bool) → eqb id (m / 4) ≡ a → clash dir (m % 4) ≡ b → (a && b) ≡ true
        → bit_xor (id * 2 ^ 2 % 2 ^ 64 + (2 + dir % 2)) m < 3 + dir / 2
    by_parts true true ea eb h =
        let q : id ≡ m / 4 = eqb-true id (m / 4) ea in
        let ek : id * 2 ^ 2 % 2 ^ 64 ≡ id * 2 ^ 2 = omega arith in
        let em : id * 2 ^ 2 + m % 4 ≡ m = omega arith in
        let t : bit_xor (id * 2 ^ 2 + (2 + dir % 2)) m ≡ bit_xor (2 + dir % 2) (m % 4) =
        rw em at (same_high id (2 + dir % 2) (m % 4) (omega arith) (omega arith)) in
        rw (ek, t) (low_test dir (m % 4) (omega arith) eb)
    by_parts true false ea eb h = let z : ◌≡◌ {A = ℕ} 0 1 = cc in absurd (omega arith)
    by_parts false b ea eb h = let z : ◌≡◌ {A = ℕ} 0 1 = cc in absurd (omega arith)

-- ---- the loop

module _ {s : List ℕ} {stop id dir p : ℕ} (h : Hopping s stop id dir p) where
  -- no head is left
  pub looks_end : stop < p + 23 → among clash id dir (packets_before s stop) ≡ false
  looks_end l = hops_end h refl (take_past s stop 23 p (omega arith) (omega arith))

  module _ {w : ℕ} (n : Near s p w) (room : p + 23 ≤ stop) (wide : stop ≤ 8 * length s) where
    abbrev all : ℕ
    all = value_of (field_bits s 23 p)

    id_there : id_in all ≡ w / 2 ^ 22 / 4
    id_there =
        let f = field_in_field s p 0 8 15 (omega arith) in
        let g = n.part 0 8 (omega arith) in
        omega (arith, n.small, field_lt s 23 p (omega arith))

    dir_there : dir_in all ≡ w / 2 ^ 22 % 4
    dir_there = sym (field_in_field s p 8 2 13 (omega arith)) ∙ sym (n.part 8 2 (omega arith))

    long_there : long_in all ≡ w / 2 ^ 9 % 8192
    long_there =
        let f = field_in_field s p 10 13 0 (omega arith) in
        let g = n.part 10 13 (omega arith) in
        omega arith

    module _ {a : ℕ} (apart : ltb (bit_xor (id * 2 ^ 2 % 2 ^ 64 + (2 + dir % 2)) (w / 2 ^ 22)) (3 + dir / 2) ≡ false) (hop : a ≡ w / 2 ^ 9 % 8192) (some : 23 ≤ a) where
      none_hit : (eqb id (id_in all) && clash dir (dir_in all)) ≡ false
      none_hit = by (eqb id (id_in all) && clash dir (dir_in all)) refl
        where
          by : (b : Bool) → (eqb id (id_in all) && clash dir (dir_in all)) ≡ b → b ≡ false
          by false e = refl
          by true e =
              let l = clash_xor id dir (w / 2 ^ 22) (omega (arith, n.small)) (rw (id_there, dir_there) at e) in
              absurd (not-le_of_lt l (ltb-false _ _ apart))

      next_is : p + 23 + (long_in all - 23) ≡ p + a
      next_is = omega (arith, long_there)

      fewer : h.left ≡ suc (h.left - 1)
      fewer = omega (arith, h.enough)

      -- and on from the next
      pub looks_on : Hopping s stop id dir (p + a)
      looks_on =
          record {
            left = h.left - 1;
            enough = omega (arith, h.enough);
            same =
                rw (← next_is)
                (h.same
                ∙ ap (λ (k : ℕ). among clash id dir (hopped k s stop p)) fewer
                ∙ ap (among clash id dir) (hopped_head (h.left - 1) s stop p all _ (take_whole s stop 23 p (omega arith) room wide))
                ∙ among_more clash id dir (id_in all) (dir_in all) (hopped (h.left - 1) s stop (p + 23 + (long_in all - 23)))
                ∙ rw none_hit);
          }
