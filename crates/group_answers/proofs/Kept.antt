-- The first 16,401 characters of a line, or more, are enough for its answer: a line with so many is no group. Assumes nothing.
use mathlib.Core.Path.{◌≡◌, sym, ap, ◌∙◌}
use mathlib.Core.List.{List}
use Prim.Native.Nat.{ℕ, ◌≤◌, ◌<◌}
use native.Mathlib.Nat.{lt_of_not-le}
use native.Mathlib.Decide.{dec_le}
use native.Mathlib.Omega.{arith}
use lib.ListN.{length, take}
use lib.Seq.{take_all, length-take-le}
use Rattle.answer_text.specs.Texts.{no_question}
use Rattle.group_words.proofs.Shorts.{group_long}
use Rattle.group_answers.specs.Lines.{text_of, answer_to, TellsLine}

long_answer : (line : List ℕ) → 16400 < length line → answer_to line ≡ no_question
unfolding answer_to
long_answer line h = ap text_of (group_long line h)

pub kept_tells : (m : ℕ) → 16401 ≤ m → TellsLine m
kept_tells m g = record { tells = λ line. by line (dec_le (length line) m) }
  where
    by : (line : List ℕ) → Dec (length line ≤ m) → answer_to (take m line) ≡ answer_to line
    by line (yes h) = ap answer_to (take_all m line h)
    by line (no h) =
        let l = lt_of_not-le h in
        let many = length-take-le m line (omega arith) in
        long_answer (take m line) (omega (arith, many)) ∙ sym (long_answer line (omega arith))
