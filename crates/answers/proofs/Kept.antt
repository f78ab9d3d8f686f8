-- The first 831 characters of a line, or more, are enough for its answer. Assumes nothing.
use mathlib.Core.Path.{◌≡◌, refl, sym, ap, ◌∙◌}
use mathlib.Core.Bool.{Bool, true, false, cond}
use mathlib.Core.List.{List}
use Prim.Native.Nat.{ℕ, ◌≤◌, ◌<◌}
use native.Mathlib.Nat.{lt_of_not-le}
use native.Mathlib.Decide.{dec_le}
use native.Mathlib.Omega.{arith}
use borrow.Author.Tests.{le-leb, lt-leb}
use lib.ListN.{length, take}
use lib.Seq.{take_all, length-take-le}
use Rattle.bits.specs.Bits.{bytes_of}
use Rattle.format.specs.Rules.{paper}
use Rattle.states.specs.Reader.{checked, answer_of}
use Rattle.packing.specs.Packing.{binary, bits_in}
use Rattle.answers.specs.Lines.{answer_to, no_telegram, most}
use Rattle.answers.specs.Text.{text_of, response_to, TellsLine}

-- ---- the answer to what is kept

-- a line of more than 830 characters is refused by its length, whatever they are
long_unchecked : (s : List ℕ) (n : ℕ) → 830 < n → answer_of (checked paper s n) ≡ no_telegram
unfolding checked
long_unchecked s n h = let g : 58 ≤ n = omega arith in simp (le-leb 58 n g, lt-leb n 830 h)

pub long_refused : (line : List ℕ) → 830 < length line → answer_to line ≡ no_telegram
unfolding answer_to
long_refused line h = by (binary line) (long_unchecked (bytes_of (bits_in line)) (length line) h)
  where
    by : (b : Bool) → answer_of (checked paper (bytes_of (bits_in line)) (length line)) ≡ no_telegram
        → cond b (answer_of (checked paper (bytes_of (bits_in line)) (length line))) no_telegram ≡ no_telegram
    by true e = e
    by false e = refl

pub kept_enough : (line : List ℕ) → answer_to (take most line) ≡ answer_to line
kept_enough line = by (dec_le (length line) most)
  where
    by : Dec (length line ≤ most) → answer_to (take most line) ≡ answer_to line
    by (yes h) = ap answer_to (take_all most line h)
    by (no h) =
        let l = lt_of_not-le h in
        long_refused (take most line) (rw (length-take-le most line (omega arith)) (omega arith)) ∙ sym (long_refused line (omega arith))

-- what is printed for a line that is too long says nothing of how long it is
long_response : (line : List ℕ) → 830 < length line → response_to line ≡ text_of 0 no_telegram
unfolding text_of
long_response line h = ap (text_of (length line)) (long_refused line h)

-- so a program may keep as many of a line, or more
pub kept_responds : (m : ℕ) → most ≤ m → TellsLine m
kept_responds m g = record { tells = λ line. by line (dec_le (length line) m) }
  where
    by : (line : List ℕ) → Dec (length line ≤ m) → response_to (take m line) ≡ response_to line
    by line (yes h) = ap response_to (take_all m line h)
    by line (no h) =
        let l = lt_of_not-le h in
        let many = length-take-le m line (omega arith) in
        long_response (take m line) (omega (arith, many)) ∙ sym (long_response line (omega arith))
