-- The numbers in a window, wherever it is: behind the last byte there are zeros. Assumes nothing.
use mathlib.Core.Path.{◌≡◌, refl, sym, ap, ◌∙◌}
use mathlib.Core.List.{List, [], ◌∷◌, ◌++◌}
use Prim.Native.Nat.{ℕ, zero, suc, ◌+◌, ◌-◌, ◌*◌, ◌/◌, ◌%◌, ◌^◌, ◌≤◌, ◌<◌}
use native.Mathlib.Nat.{lt_of_not-le, add-mul, mul_assoc}
use native.Mathlib.Decide.{dec_le}
use native.Mathlib.Omega.{arith}
use borrow.Author.Tests.{le-leb, lt-leb}
use lib.ListN.{length, take, drop, replicate, take-append-drop, length-drop, length-replicate}
use lib.Seq.{take_at, take_all, drop_at, drop-drop}
use lib.Pow.{pow-add, low, shl_lt, ones_lt}
use Rattle.bits.specs.Bits.{value_of, bits_of, filled, Below}
use Rattle.bits.specs.Take.{field_bits}
use Rattle.bits.specs.Ahead.{window_byte, window_at, behind, seen_at, number_at}
use Rattle.bits.proofs.Digits.{value_of_cons, value_of_append, value_of_lt, value_of_part}
use Rattle.bits.proofs.Bytes.{below_drop, below_bits_of, length_bits_of, length_filled, below_filled, filled_add, filled_take, filled_is}
use Rattle.bits.proofs.Sight.{behind_is, ahead_is}

-- zeros have the number 0
zeros : (m : ℕ) → value_of (replicate m 0) ≡ 0
unfolding value_of
zeros zero = refl
zeros (suc m) = value_of_cons 0 (replicate m 0) ∙ rw (zeros m) (omega arith)

-- bits with m zeros behind them
filled_value : (k m : ℕ) (l : List ℕ) → k ≡ length l + m → value_of (filled k l) ≡ value_of l * 2 ^ m
filled_value k m l e =
    ap value_of (filled_is k m l e) ∙ value_of_append l (replicate m 0) ∙ rw (length-replicate {A = ℕ} m 0, zeros m) (omega arith)

-- a number that is moved up by as many bits as there are
lost : (v d k : ℕ) → k ≤ d → v * 2 ^ d % 2 ^ k ≡ 0
lost v d k h =
    let some : 0 < 2 ^ k = omega (arith, ones_lt k) in
    let all : d - k + k ≡ d = omega arith in
    let above : v * 2 ^ (d - k + k) ≡ v * 2 ^ (d - k) * 2 ^ k + 0 = rw (pow-add 2 (d - k) k, ← (mul_assoc v (2 ^ (d - k)) (2 ^ k))) (omega arith) in
    ap (λ (x : ℕ). x % 2 ^ k) (rw all at above) ∙ low (v * 2 ^ (d - k)) k some

-- nothing is behind the end
behind_end : (d : ℕ) (l : List ℕ) → length l ≤ d → drop d l ≡ []
behind_end d l h = empty (drop d l) (length-drop d l ∙ omega arith)
  where
    empty : (m : List ℕ) → length m ≡ 0 → m ≡ []
    empty [] e = refl
    empty (x ∷ m) e = absurd (omega arith)

-- a list of bits as a number of k bits, moved up by d: its first d bits are lost, and zeros come in behind
moved_up : (k d : ℕ) (l : List ℕ) → Below 2 l → length l ≡ k → value_of l * 2 ^ d % 2 ^ k ≡ value_of (filled k (drop d l))
moved_up k d l h e = by (dec_le d k)
  where
    -- the first d bits come to stand above the k
    split : (a b : List ℕ) (m : ℕ) → length b ≡ m → Below 2 b → value_of (a ++ b) * 2 ^ d % 2 ^ (m + d) ≡ value_of b * 2 ^ d
    split a b m i g =
        let small : value_of b * 2 ^ d < 2 ^ (m + d) = shl_lt m d (rw i at (value_of_lt b g)) in
        ap (λ (v : ℕ). v % 2 ^ (m + d)) (rw (value_of_append a b, i, add-mul, mul_assoc, ← (pow-add 2 m d))) ∙ low (value_of a) (m + d) small

    by : Dec (d ≤ k) → value_of l * 2 ^ d % 2 ^ k ≡ value_of (filled k (drop d l))
    by (yes i) =
        let left : length (drop d l) ≡ k - d = rw (length-drop, e) in
        let all : k - d + d ≡ k = omega arith in
        let c = rw (take-append-drop d l, all) at (split (take d l) (drop d l) (k - d) left (below_drop 2 d l h)) in
        c ∙ sym (filled_value k d (drop d l) (omega arith))
    by (no i) =
        let more = lt_of_not-le i in
        lost (value_of l) d k (omega arith) ∙ sym (rw (behind_end d l (omega arith)) (ap value_of (filled_is k k [] (omega arith)) ∙ zeros k))

-- the b bits behind the first o of a list that is filled up
filled_part : (o b r : ℕ) (x : List ℕ) → take b (drop o (filled (o + (b + r)) x)) ≡ filled b (drop o x)
filled_part o b r x =
    rw (filled_add o (b + r) x, drop_at (filled o x) (filled (b + r) (drop o x)) o (length_filled o x), filled_add b r (drop o x))
    (take_at (filled b (drop o x)) (filled r (drop b (drop o x))) b (length_filled b (drop o x)))

module _ (s : List ℕ) (at : ℕ) (long : 8 ≤ length s) where
  -- the window holds all that is left
  last : length s - 8 ≤ at / 8 → (o b : ℕ) → o + b ≤ 57 → behind (window_at s at) o b ≡ number_at s b (at + o)
  last h o b few =
      let k = length s - 8 in
      let here : window_byte s at ≡ k = omega arith in
      let all = drop (8 * k) (bits_of s) in
      let eight : length all ≡ 64 = rw (length-drop, length_bits_of) (omega arith) in
      let below : Below 2 all = below_drop 2 (8 * k) (bits_of s) (below_bits_of s) in
      let there : 8 * k + (at - 8 * k) ≡ at = omega arith in
      let w : window_at s at ≡ value_of (filled 64 (drop at (bits_of s))) =
      rw (here, take_all 64 all (omega arith)) (rw (drop-drop (at - 8 * k) (8 * k) (bits_of s), there) at (moved_up 64 (at - 8 * k) all below eight)) in
      let r = 57 - (o + b) + 7 in
      let sum : o + (b + r) ≡ 64 = omega arith in
      let f = filled 64 (drop at (bits_of s)) in
      rw w
      (behind_is (value_of f) o b r sum
      ∙ sym (value_of_part f o b r (below_filled 64 (drop at (bits_of s)) (below_drop 2 at (bits_of s) (below_bits_of s))) (length_filled 64 (drop at (bits_of s)) ∙ sym sum))
      ∙ ap value_of (rw (sum, drop-drop o at (bits_of s)) at (filled_part o b r (drop at (bits_of s)))))

  -- a field in the window of a position
  pub number_is : (o b : ℕ) → o + b ≤ 57 → behind (seen_at s at) o b ≡ number_at s b (at + o)
  number_is o b few = rw (le-leb 8 (length s) long) (by (dec_le (at + 57) (8 * length s)))
    where
      by : Dec (at + 57 ≤ 8 * length s) → behind (window_at s at) o b ≡ number_at s b (at + o)
      by (yes h) =
          (ahead_is s at long (omega arith)).part o b few (omega arith)
          ∙ ap value_of (sym (filled_take b (drop (at + o) (bits_of s)) (rw (length-drop, length_bits_of) (omega arith))))
      by (no h) = let l = lt_of_not-le h in last (omega arith) o b few

-- ---- by the tests of the code

module _ (s : List ℕ) (at : ℕ) where
  pub seen_none : length s < 8 → 0 ≡ seen_at s at
  seen_none h = rw (lt-leb 8 (length s) h)

  module _ (long : 8 ≤ length s) where
    pub seen_far : 63 < at - 8 * window_byte s at → 0 ≡ seen_at s at
    seen_far h = rw (le-leb 8 (length s) long) (sym (lost _ (at - 8 * window_byte s at) 64 (omega arith)))

    pub seen_here : window_at s at ≡ seen_at s at
    seen_here = rw (le-leb 8 (length s) long)

-- a number of so many bits
pub number_lt : (s : List ℕ) (b at : ℕ) → number_at s b at < 2 ^ b
number_lt s b at =
    rw (length_filled b (drop at (bits_of s))) at
    (value_of_lt (filled b (drop at (bits_of s))) (below_filled b (drop at (bits_of s)) (below_drop 2 at (bits_of s) (below_bits_of s))))

-- where the bytes have them all, it is that of the field
pub number_within : (s : List ℕ) (b at : ℕ) → at + b ≤ 8 * length s → number_at s b at ≡ value_of (field_bits s b at)
number_within s b at h = ap value_of (filled_take b (drop at (bits_of s)) (rw (length-drop, length_bits_of) (omega arith)))
