-- The answer to a line, by what packing it finds. Assumes nothing.
use Rattle.std.specs.Prelude.{Ok, Err, Result, ℕ}
use mathlib.Core.Path.{◌≡◌, sym, ap, ◌∙◌}
use mathlib.Core.List.{List}
use Prim.Native.Nat.{◌≤◌}
use native.Mathlib.Omega.{arith}
use lib.ListN.{length, take}
use mathlib.Core.Bool.{Bool, cond}
use Rattle.bits.specs.Bits.{bytes_for, bytes_of}
use Rattle.format.specs.Rules.{paper}
use Rattle.states.specs.Reader.{checked, answer_of}
use Rattle.packing.specs.Packing.{bits_in, Pack}
use Rattle.packing.proofs.Answers.{packed_whole, packed_other, packed_roomless}
use Rattle.answers.specs.Lines.{answer_to, no_telegram}
use Rattle.answers.proofs.Kept.{long_refused}
use Rattle.packing.specs.declared.PackError.TheVariants.{Other, Room}
use Rattle.packing.specs.declared.PackError.{PackError}

module _ (line before : List ℕ) (answered : Result ℕ PackError) (after : List ℕ) (h : Pack line before answered after) where
  pub answer_bits : (n k : ℕ) → answered ≡ Ok n → k ≡ bytes_for n → answer_of (checked paper (take k after) n) ≡ answer_to line
  unfolding answer_to
  answer_bits n k e f =
      let w = packed_whole line before answered after h n e in
      ap (λ (j : ℕ). answer_of (checked paper (take j after) n)) f
      ∙ ap (λ (s : List ℕ). answer_of (checked paper s n)) w.bytes
      ∙ ap (λ (j : ℕ). answer_of (checked paper (bytes_of (bits_in line)) j)) w.count
      ∙ sym (ap (λ (b : Bool). cond b (answer_of (checked paper (bytes_of (bits_in line)) (length line))) no_telegram) w.only)

  pub prefix_fits : (n k : ℕ) → answered ≡ Ok n → k ≡ bytes_for n → k ≤ length after
  prefix_fits n k e f = let w = packed_whole line before answered after h n e in rw f w.inside

  pub answer_other : answered ≡ (Err Other) → no_telegram ≡ answer_to line
  unfolding answer_to
  answer_other e =
      sym (ap (λ (b : Bool). cond b (answer_of (checked paper (bytes_of (bits_in line)) (length line))) no_telegram)
      (packed_other line before answered after h e))

  -- 104 bytes have room for every telegram
  pub answer_roomless : length before ≡ 104 → answered ≡ (Err Room) → no_telegram ≡ answer_to line
  answer_roomless l e =
      let g = packed_roomless line before answered after h e in sym (long_refused line (omega arith))

  -- what is not packed is no telegram, for either reason
  pub answer_unpacked : length before ≡ 104 → (e : PackError) → answered ≡ Err e → no_telegram ≡ answer_to line
  answer_unpacked l Other e = answer_other e
  answer_unpacked l Room e = answer_roomless l e
