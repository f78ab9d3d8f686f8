-- The answer to a line of bits, by what packing it finds. Assumes nothing.
use Rattle.std.specs.Prelude.{Ok, Err, Result, ℕ}
use mathlib.Core.Path.{◌≡◌, refl, sym, ap, ap₂, ◌∙◌}
use mathlib.Core.Bool.{Bool, true, false, cond, ◌&&◌}
use mathlib.Core.List.{List}
use Prim.Native.Nat.{◌≤◌}
use native.Mathlib.Omega.{arith}
use borrow.Author.Tests.{le-leb, lt-leb}
use lib.Dec.{leb}
use lib.ListN.{length, take}
use Rattle.answer_text.specs.Texts.{no_question}
use Rattle.bits.specs.Bits.{bytes_for, bytes_of}
use Rattle.packing.specs.Packing.{binary, bits_in, Pack}
use Rattle.packing.proofs.Answers.{packed_whole, packed_other, packed_roomless}
use Rattle.replies.specs.Replies.{read_text, normal_text, bits_text}
use Rattle.packing.specs.declared.PackError.TheVariants.{Other, Room}
use Rattle.packing.specs.declared.PackError.{PackError}

-- what the line asks
abbrev asked : Bool → List ℕ → List ℕ
asked normal line = cond normal (normal_text (bytes_of (bits_in line)) (length line)) (read_text (bytes_of (bits_in line)) (length line))

by_tests : (normal p q : Bool) (line : List ℕ) → binary line ≡ p → leb (bytes_for (length line)) 125 ≡ q
    → cond (p && q) (asked normal line) no_question ≡ bits_text normal line
unfolding bits_text
by_tests normal p q line e f = rw (sym e, sym f)

no_bits : (p q : Bool) (text : List ℕ) → q ≡ false → no_question ≡ cond (p && q) text no_question
no_bits true q text e = rw e
no_bits false q text e = refl

module _ (line before after : List ℕ) (answered : Result ℕ PackError) (normal : Bool) (h : Pack line before answered after) where
  module _ (room : length after ≡ 125) (n k : ℕ) (e : answered ≡ Ok n) (f : k ≡ bytes_for n) where
    pub bits_within : k ≤ length after
    bits_within = rw f (packed_whole line before answered after h n e).inside

    bytes_are : take k after ≡ bytes_of (bits_in line)
    bytes_are = ap (λ (j : ℕ). take j after) f ∙ (packed_whole line before answered after h n e).bytes

    few : leb (bytes_for (length line)) 125 ≡ true
    few =
        let w = packed_whole line before answered after h n e in
        le-leb (bytes_for (length line)) 125 (omega (arith, w.count, w.inside))

    is_asked : asked normal line ≡ bits_text normal line
    is_asked = by_tests normal true true line (packed_whole line before answered after h n e).only few

    pub bits_normal : normal ≡ true → normal_text (take k after) n ≡ bits_text normal line
    bits_normal g =
        ap₂ normal_text bytes_are (packed_whole line before answered after h n e).count
        ∙ sym (ap (λ (b : Bool). asked b line) g) ∙ is_asked

    pub bits_read : normal ≡ false → read_text (take k after) n ≡ bits_text normal line
    bits_read g =
        ap₂ read_text bytes_are (packed_whole line before answered after h n e).count
        ∙ sym (ap (λ (b : Bool). asked b line) g) ∙ is_asked

  pub bits_other : answered ≡ (Err Other) → no_question ≡ bits_text normal line
  bits_other e = by_tests normal false (leb (bytes_for (length line)) 125) line (packed_other line before answered after h e) refl

  pub bits_roomless : length before ≡ 125 → answered ≡ (Err Room) → no_question ≡ bits_text normal line
  bits_roomless l e =
      let g = packed_roomless line before answered after h e in
      let many : leb (bytes_for (length line)) 125 ≡ false = lt-leb (bytes_for (length line)) 125 (omega arith) in
      no_bits (binary line) false (asked normal line) refl ∙ by_tests normal (binary line) false line refl many

  -- what is not packed is no question, for either reason
  pub bits_unpacked : length before ≡ 125 → (e : PackError) → answered ≡ Err e → no_question ≡ bits_text normal line
  bits_unpacked l Other e = bits_other e
  bits_unpacked l Room e = bits_roomless l e
