-- The bits behind a telegram that is copied to the front of what is lent. Assumes nothing.
use mathlib.Core.Bool.{true}
use mathlib.Core.List.{List, ◌∷◌, ◌++◌}
use mathlib.Core.Path.{◌≡◌, refl, sym, ap, ap₂, ◌∙◌}
use Prim.Native.Nat.{ℕ, zero, suc, ◌-◌, ◌*◌, ◌/◌, ◌%◌, ◌^◌, ◌≤◌}
use native.Mathlib.Nat.{zero-div}
use borrow.Author.Tests.{eqb-true}
use lib.ListN.{length, drop, replicate, length-drop}
use lib.Seq.{drop-append-le}
use Rattle.bits.specs.Bits.{digits, value_of, bits_of, bytes_for}
use Rattle.bits.proofs.Digits.{digits_value_of_at}
use Rattle.bits.proofs.Bytes.{length_bits_of, below_bits_of, below_drop, bits_of_append}
use Rattle.states.specs.Reader.{clear}

module _ (s : List ℕ) (n : ℕ) (rest : List ℕ) (l : n ≤ 8 * length s) where
  digits_zero : (k : ℕ) → digits k 0 ≡ replicate k 0
  unfolding digits
  digits_zero zero = refl
  digits_zero (suc k) =
      let q : 0 / 2 ^ k % 2 ≡ 0 = rw (zero-div (2 ^ k)) in
      ap₂ (λ (x : ℕ) (xs : List ℕ). x ∷ xs) q (digits_zero k)

  -- behind the n bits are the unused ones, which are 0, and then what is behind the bytes
  pub copy_behind : length s ≡ bytes_for n → clear s n ≡ true
      → drop n (bits_of (s ++ rest)) ≡ replicate (8 * bytes_for n - n) 0 ++ bits_of rest
  copy_behind b c =
      let unused : length (drop n (bits_of s)) ≡ 8 * bytes_for n - n = rw (length-drop n (bits_of s), length_bits_of s, b) in
      let zeros : drop n (bits_of s) ≡ replicate (8 * bytes_for n - n) 0 =
      sym (digits_value_of_at (8 * bytes_for n - n) (drop n (bits_of s)) (below_drop 2 n (bits_of s) (below_bits_of s)) unused)
      ∙ ap (digits (8 * bytes_for n - n)) (eqb-true (value_of (drop n (bits_of s))) 0 c)
      ∙ digits_zero (8 * bytes_for n - n) in
      ap (drop n) (bits_of_append s rest)
      ∙ drop-append-le n (bits_of s) (bits_of rest) (rw (length_bits_of s) l)
      ∙ ap (λ (x : List ℕ). x ++ bits_of rest) zeros
