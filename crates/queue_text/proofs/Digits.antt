-- The digits of a number, which are put by themselves before they join. Assumes nothing.
use mathlib.Core.Path.{◌≡◌, ap, ◌∙◌}
use mathlib.Core.List.{List, ◌++◌}
use Prim.Native.Nat.{ℕ, ◌+◌, ◌≤◌}
use native.Mathlib.Omega.{arith}
use borrow.Author.Tests.{le-leb}
use lib.ListN.{length, take, drop, length-append}
use lib.Seq.{take-append_seam}
use Rattle.pieces.specs.Numbers.{decimal}
use Rattle.pieces.specs.Pieces.{over, past, Appended}
use Rattle.pieces.proofs.Decimals.{length_decimal}

module _ (before after : List ℕ) (v k : ℕ) (l : length before ≡ 20) (h : Appended before 0 (decimal v) k after) where
  few : 0 + length (decimal v) ≤ length before
  few = omega (arith, length_decimal 20 v)

  counts : k ≡ length (decimal v)
  unfolding past
  counts = h.ends ∙ rw (le-leb (0 + length (decimal v)) (length before) few) (omega arith)

  is : after ≡ decimal v ++ drop (length (decimal v)) before
  unfolding over
  is =
      let none : 0 + length (decimal v) ≡ length (decimal v) = omega arith in
      h.text ∙ rw (le-leb (0 + length (decimal v)) (length before) few) (ap (λ (n : ℕ). decimal v ++ drop n before) none)

  pub digits_within : k ≤ length after
  digits_within = rw (is, counts, length-append (decimal v) (drop (length (decimal v)) before)) (omega arith)

  pub digits_are : take k after ≡ decimal v
  digits_are = rw (is, counts) (take-append_seam (decimal v) (drop (length (decimal v)) before))
