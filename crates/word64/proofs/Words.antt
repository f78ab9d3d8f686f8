-- The operators on words of 64 bits, and what a caller reads off the promises about them. Assumes nothing.
use mathlib.Core.Path.{◌≡◌, refl, sym, ap, ◌∙◌}
use mathlib.Core.Bool.{Bool, true, false, ◌||◌}
use Prim.Native.Nat.{ℕ, ◌+◌, ◌-◌, ◌*◌, ◌/◌, ◌%◌, ◌^◌, ◌≤◌, ◌<◌}
use native.Mathlib.Nat.{one-mul, div-eq_of_lt, div-lt_iff_lt-mul, lt_of_not-le, add-mul, mul_assoc, mul-mod_left}
use native.Mathlib.Decide.{dec_le}
use native.Mathlib.Omega.{arith}
use borrow.Author.Tests.{eq-eqb, ne_eqb, lt-ltb, le-ltb, ltb-false}
use lib.Dec.{eqb, ltb}
use lib.Pow.{pow_pos, pow-add, shl_lt, shl_exact}
use lib.Bits.{bit_or, or_shifted}

-- ---- the operators

-- `1 << t`
pub one_shl : (t : ℕ) → t < 64 → 1 * 2 ^ t % 2 ^ 64 ≡ 2 ^ t
one_shl t h = shl_exact {a = 1} 1 t 64 (omega arith) (omega arith) ∙ one-mul (2 ^ t)

-- `(v << t) | x`
pub or_shl : (j t v x : ℕ) → v < 2 ^ j → x < 2 ^ t → j + t ≤ 64 → bit_or (v * 2 ^ t % 2 ^ 64) x ≡ v * 2 ^ t + x
or_shl j t v x h k l = ap (λ (y : ℕ). bit_or y x) (shl_exact j t 64 h l) ∙ or_shifted v t x k

-- `v >> w == 0`
pub shifted_out : (v w : ℕ) → eqb (v / 2 ^ w) 0 ≡ ltb v (2 ^ w)
shifted_out v w = by (dec_le (2 ^ w) v)
  where
    by : Dec (2 ^ w ≤ v) → eqb (v / 2 ^ w) 0 ≡ ltb v (2 ^ w)
    by (yes h) =
        ne_eqb (v / 2 ^ w) 0 (λ e. let l = (div-lt_iff_lt-mul {x = v} {y = 1} (pow_pos w)).0 (omega arith) in omega (arith, rw (one-mul (2 ^ w)) at l))
        ∙ sym (le-ltb v (2 ^ w) h)
    by (no h) = eq-eqb (v / 2 ^ w) 0 (div-eq_of_lt (lt_of_not-le h)) ∙ sym (lt-ltb v (2 ^ w) (lt_of_not-le h))

-- `(a << 24) | (b << 16) | (c << 8) | d`
pub or_bytes : (a b c d : ℕ) → a < 2 ^ 8 → b < 2 ^ 8 → c < 2 ^ 8 → d < 2 ^ 8
    → bit_or (bit_or (bit_or (a * 2 ^ 24 % 2 ^ 64) (b * 2 ^ 16 % 2 ^ 64)) (c * 2 ^ 8 % 2 ^ 64)) d
    ≡ ((a * 2 ^ 8 + b) * 2 ^ 8 + c) * 2 ^ 8 + d
or_bytes a b c d ha hb hc hd =
    rw (
      shl_exact 8 24 64 ha (omega arith),
      shl_exact 8 16 64 hb (omega arith),
      shl_exact 8 8 64 hc (omega arith),
      or_next a b 8 16 hb,
      or_next (a * 2 ^ 8 + b) c 8 8 hc,
    )
    (or_shifted ((a * 2 ^ 8 + b) * 2 ^ 8 + c) 8 d hd)
  where
    -- a number shifted further by t bits leaves room for t bits more
    or_next : (v x t k : ℕ) → x < 2 ^ t → bit_or (v * 2 ^ (t + k)) (x * 2 ^ k) ≡ (v * 2 ^ t + x) * 2 ^ k
    or_next v x t k h = or_shifted v (t + k) (x * 2 ^ k) (shl_lt t k h) ∙ rw (pow-add 2 t k, add-mul, mul_assoc)

-- `w << o`, where o is 64 or more
pub all_gone : (w o b : ℕ) → 64 ≤ o → w * 2 ^ o % 2 ^ 64 / 2 ^ (64 - b) ≡ 0
all_gone w o b h =
    let e : o ≡ o - 64 + 64 = omega arith in
    ap (λ (x : ℕ). w * 2 ^ x % 2 ^ 64 / 2 ^ (64 - b)) e
    ∙ rw (pow-add 2 (o - 64) 64, ← (mul_assoc w (2 ^ (o - 64)) (2 ^ 64)), mul-mod_left (w * 2 ^ (o - 64)) (2 ^ 64)) (div-eq_of_lt (pow_pos (64 - b)))

-- ---- what a caller reads

-- a field that is not too wide lies in four bytes, and there are four
pub narrow : (bytes width : ℕ) → (ltb 25 width || ltb bytes 4) ≡ false → (width ≤ 25) × (4 ≤ bytes)
narrow bytes width e = let n = neither (ltb 25 width) (ltb bytes 4) e in (ltb-false 25 width n.0, ltb-false bytes 4 n.1)
  where
    neither : (p q : Bool) → (p || q) ≡ false → (p ≡ false) × (q ≡ false)
    neither false q h = (refl, h)
    neither true q h = absurd (let z : ◌≡◌ {A = ℕ} 0 1 = cc in omega arith)
