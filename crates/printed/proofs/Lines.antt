-- What a line tells, by what packing it finds. Assumes nothing.
use Rattle.std.specs.Prelude.{Ok, Err, Result, ℕ}
use mathlib.Core.Path.{◌≡◌, refl, sym, ap, ◌∙◌}
use mathlib.Core.Bool.{Bool, true, false, cond}
use mathlib.Core.List.{List}
use Prim.Native.Nat.{ℕ, ◌≤◌, ◌<◌}
use native.Mathlib.Omega.{arith}
use borrow.Author.Tests.{le-leb, lt-leb}
use lib.ListN.{length, take}
use Rattle.bits.specs.Bits.{bytes_for, bytes_of}
use Rattle.format.specs.Rules.{paper}
use Rattle.format.specs.declared.Kind.TheVariants.{Size}
use Rattle.states.specs.Reader.{at_once, checked}
use Rattle.packing.specs.Packing.{binary, bits_in, Pack}
use Rattle.packing.proofs.Answers.{packed_whole, packed_other, packed_roomless}
use Rattle.printed.specs.Printed.{told}
use Rattle.packing.specs.declared.PackError.TheVariants.{Other, Room}
use Rattle.packing.specs.declared.PackError.{PackError}

-- more than 830 characters are refused by their number, whatever they are
pub long_refused : (line : List ℕ) → 830 < length line → told line ≡ at_once Size
unfolding told checked
long_refused line h = by (binary line)
  where
    by : (b : Bool) → cond b (checked paper (bytes_of (bits_in line)) (length line)) (at_once Size) ≡ at_once Size
    by true = let g : 58 ≤ length line = omega arith in simp (le-leb 58 (length line) g, lt-leb (length line) 830 h)
    by false = refl

module _ (line before : List ℕ) (answered : Result ℕ PackError) (after : List ℕ) (h : Pack line before answered after) where
  pub told_bits : (n k : ℕ) → answered ≡ Ok n → k ≡ bytes_for n → checked paper (take k after) n ≡ told line
  unfolding told
  told_bits n k e f =
      let w = packed_whole line before answered after h n e in
      ap (λ (j : ℕ). checked paper (take j after) n) f
      ∙ ap (λ (s : List ℕ). checked paper s n) w.bytes
      ∙ ap (λ (j : ℕ). checked paper (bytes_of (bits_in line)) j) w.count
      ∙ sym (ap (λ (b : Bool). cond b (checked paper (bytes_of (bits_in line)) (length line)) (at_once Size)) w.only)

  pub prefix_fits : (n k : ℕ) → answered ≡ Ok n → k ≡ bytes_for n → k ≤ length after
  prefix_fits n k e f = let w = packed_whole line before answered after h n e in rw f w.inside

  told_other : answered ≡ (Err Other) → at_once Size ≡ told line
  unfolding told
  told_other e =
      sym (ap (λ (b : Bool). cond b (checked paper (bytes_of (bits_in line)) (length line)) (at_once Size)) (packed_other line before answered after h e))

  -- 104 bytes have room for every telegram
  told_roomless : length before ≡ 104 → answered ≡ (Err Room) → at_once Size ≡ told line
  told_roomless l e = let g = packed_roomless line before answered after h e in sym (long_refused line (omega arith))

  -- what is not packed is no telegram, for either reason
  pub told_unpacked : length before ≡ 104 → (e : PackError) → answered ≡ Err e → at_once Size ≡ told line
  told_unpacked l Other e = told_other e
  told_unpacked l Room e = told_roomless l e
