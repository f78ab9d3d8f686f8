-- What a caller of `pack` learns from each answer. Assumes nothing.
use Rattle.std.specs.Prelude.{Ok, Err, Result, ℕ}
use mathlib.Core.Path.{◌≡◌, refl, sym, ap, ◌∙◌}
use mathlib.Core.Bool.{Bool, true, false, cond}
use mathlib.Core.List.{List}
use Prim.Native.Nat.{ℕ, ◌≤◌, ◌<◌}
use native.Mathlib.Omega.{arith}
use borrow.Author.Tests.{leb-false}
use lib.ListN.{length, take, drop, length-append}
use lib.Seq.{take_at}
use Rattle.bits.specs.Bits.{bytes_for, bytes_of}
use Rattle.bits.proofs.Bytes.{length_bytes_of}
use Rattle.packing.specs.Packing.{binary, bits_in, roomy, bytes_over, packed_of, pack_into, Pack}
use Rattle.packing.proofs.Lines.{length_bits_in}
use Rattle.packing.specs.declared.PackError.TheVariants.{Other, Room}
use Rattle.packing.specs.declared.PackError.{PackError}

-- n bits were packed: the line's, and their bytes stand in front
pub record Whole (line after : List ℕ) (n : ℕ) : Type 0 where
  pub only : binary line ≡ true
  pub count : n ≡ length line
  pub inside : bytes_for n ≤ length after
  pub bytes : take (bytes_for n) after ≡ bytes_of (bits_in line)

length_bytes : (line : List ℕ) → length (bytes_of (bits_in line)) ≡ bytes_for (length line)
length_bytes line = length_bytes_of (bits_in line) ∙ ap bytes_for (length_bits_in line)

whole : (line before : List ℕ) (n : ℕ) → binary line ≡ true → n ≡ length line → Whole line (bytes_over line before) n
unfolding bytes_over
whole line before n b e =
    let l : length (bytes_of (bits_in line)) ≡ bytes_for n = length_bytes line ∙ ap bytes_for (sym e) in
    record {
      only = b;
      count = e;
      inside = rw (length-append (bytes_of (bits_in line)) (drop (bytes_for (length line)) before)) (omega arith);
      bytes = take_at (bytes_of (bits_in line)) (drop (bytes_for (length line)) before) (bytes_for n) l;
    }

module _ (line before : List ℕ) where
  by_bits : (n : ℕ) (p q : Bool) → binary line ≡ p → roomy line before ≡ q → cond p (cond q (Ok (length line)) (Err Room)) (Err Other) ≡ Ok n
      → Whole line (cond p (cond q (bytes_over line before) before) before) n
  by_bits n true true b r e = let c : length line ≡ n = cc in whole line before n b (sym c)
  by_bits n true false b r e = let z : ◌≡◌ {A = ℕ} 0 1 = cc in absurd (omega arith)
  by_bits n false q b r e = let z : ◌≡◌ {A = ℕ} 0 1 = cc in absurd (omega arith)

  by_other : (p q : Bool) → binary line ≡ p → cond p (cond q (Ok (length line)) (Err Room)) (Err Other) ≡ (Err Other) → binary line ≡ false
  by_other true true b e = let z : ◌≡◌ {A = ℕ} 0 1 = cc in absurd (omega arith)
  by_other true false b e = let z : ◌≡◌ {A = ℕ} 0 1 = cc in absurd (omega arith)
  by_other false q b e = b

  by_room : (p q : Bool) → roomy line before ≡ q → cond p (cond q (Ok (length line)) (Err Room)) (Err Other) ≡ (Err Room) → roomy line before ≡ false
  by_room true true r e = let z : ◌≡◌ {A = ℕ} 0 1 = cc in absurd (omega arith)
  by_room true false r e = r
  by_room false q r e = let z : ◌≡◌ {A = ℕ} 0 1 = cc in absurd (omega arith)

  module _ (answered : Result ℕ PackError) (after : List ℕ) (h : Pack line before answered after) where
    pub packed_whole : (n : ℕ) → answered ≡ Ok n → Whole line after n
    unfolding packed_of pack_into
    packed_whole n e = rw h.contents (by_bits n (binary line) (roomy line before) refl refl (sym h.answer ∙ e))

    pub packed_other : answered ≡ (Err Other) → binary line ≡ false
    unfolding packed_of
    packed_other e = by_other (binary line) (roomy line before) refl (sym h.answer ∙ e)

    pub packed_roomless : answered ≡ (Err Room) → length before < bytes_for (length line)
    unfolding packed_of
    packed_roomless e =
        leb-false (bytes_for (length line)) (length before) (by_room (binary line) (roomy line before) refl (sym h.answer ∙ e))
