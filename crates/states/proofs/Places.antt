-- NID_RADIO, place by place from the highest. Assumes nothing.
use mathlib.Core.Path.{◌≡◌, refl, ◌∙◌}
use mathlib.Core.Bool.{Bool, true, false, not, ◌&&◌, ◌||◌, or-true}
use Prim.Native.Nat.{ℕ, zero, suc, ◌+◌, ◌/◌, ◌%◌, ◌*◌, ◌^◌, ◌<◌, ◌≤◌}
use native.Mathlib.Nat.{pow-suc, not-suc-le-zero}
use native.Mathlib.Omega.{arith}
use borrow.Author.Tests.{eq-eqb, ne_eqb, le-leb, lt-leb}
use lib.Dec.{eqb, leb}
use lib.Pow.{pow-add}
use Rattle.format.specs.Rules.{radio_from}

pub place : (k : ℕ) → 2 ^ (4 * k) ≡ 16 ^ k
place zero = refl
place (suc k) =
    let e : 4 * suc k ≡ 4 * k + 4 = omega arith in
    rw (e, pow-add 2 (4 * k) 4, place k, pow-suc 16 k) refl

module _ (v : ℕ) (f : Bool) where
  -- one place: what is left to test, if it may stand there
  opens : (k j : ℕ) → k ≡ suc j → (let d = v / 2 ^ (4 * j) % 16 in radio_from k f v ≡ ((eqb d 15 || leb d 9 && not f) && radio_from j (f || eqb d 15) v))
  unfolding radio_from
  opens k j e = rw (e, place j) refl

  module _ (k j : ℕ) (e : k ≡ suc j) where
    pub full_at : v / 2 ^ (4 * j) % 16 ≡ 15 → radio_from k f v ≡ radio_from j true v
    full_at d = opens k j e ∙ simp (eq-eqb (v / 2 ^ (4 * j) % 16) 15 d, or-true)

    pub digit_at : v / 2 ^ (4 * j) % 16 ≤ 9 → f ≡ false → radio_from k f v ≡ radio_from j f v
    digit_at d z =
        opens k j e ∙ simp (ne_eqb (v / 2 ^ (4 * j) % 16) 15 (λ x. omega arith), le-leb (v / 2 ^ (4 * j) % 16) 9 d, z)

    pub bad_digit : (v / 2 ^ (4 * j) % 16 ≡ 15 → ⊥) → 9 < v / 2 ^ (4 * j) % 16 → radio_from k f v ≡ false
    bad_digit n d = opens k j e ∙ simp (ne_eqb (v / 2 ^ (4 * j) % 16) 15 n, lt-leb (v / 2 ^ (4 * j) % 16) 9 d)

    pub late_digit : (v / 2 ^ (4 * j) % 16 ≡ 15 → ⊥) → v / 2 ^ (4 * j) % 16 ≤ 9 → f ≡ true → radio_from k f v ≡ false
    late_digit n d z =
        opens k j e ∙ simp (ne_eqb (v / 2 ^ (4 * j) % 16) 15 n, le-leb (v / 2 ^ (4 * j) % 16) 9 d, z)

  pub all_read : (k : ℕ) → k ≤ 0 → radio_from k f v ≡ true
  unfolding radio_from
  all_read zero l = refl
  all_read (suc k) l = absurd (not-suc-le-zero l)
