-- A part put behind what is kept of a line, as far as there is room. Assumes nothing.
use mathlib.Core.Path.{◌≡◌, sym, ap, ◌∙◌}
use mathlib.Core.List.{List, ◌++◌}
use Prim.Native.Nat.{ℕ, ◌+◌, ◌-◌, ◌≤◌, min}
use native.Mathlib.Nat.{lt_of_not-le}
use native.Mathlib.Decide.{dec_le}
use native.Mathlib.Omega.{arith}
use borrow.Author.Tests.{le-leb}
use lib.ListN.{length, take, drop, length-append}
use lib.Seq.{take_all, take-append-add, length-take-le}
use Rattle.pieces.specs.Pieces.{over, past, Appended}
use Rattle.blocks.specs.Reading.{fitting, Keeps}

pub take_least : (m r : ℕ) (part : List ℕ) → m ≡ min (length part) r → take m part ≡ take r part
take_least m r part e = by (dec_le (length part) r)
  where
    by : Dec (length part ≤ r) → take m part ≡ take r part
    by (yes h) = take_all m part (omega arith) ∙ sym (take_all r part h)
    by (no h) = let l = lt_of_not-le h in let same : m ≡ r = omega arith in ap (λ (n : ℕ). take n part) same

module _ (n m r : ℕ) (line part after : List ℕ) (h : n ≤ length line) (e : m ≡ min (length part) (length line - n))
    (a : Appended line n (take m part) r after) where
  front : length (take n line) ≡ n
  front = length-take-le n line h

  many : length (take m part) ≡ m
  many = length-take-le m part (omega arith)

  fits : fitting (take n line ++ part) line ≡ take n line ++ take m part
  fits =
      let all : length (take n line) + (length line - n) ≡ length line = omega (arith, front) in
      ap (λ (k : ℕ). take k (take n line ++ part)) (sym all)
      ∙ take-append-add (take n line) part (length line - n)
      ∙ ap (λ (p : List ℕ). take n line ++ p) (sym (take_least m (length line - n) part e))

  long : length (fitting (take n line ++ part) line) ≡ n + m
  long = ap length fits ∙ length-append (take n line) (take m part) ∙ omega (arith, front, many)

  room : n + length (take m part) ≤ length line
  room = omega (arith, many)

  pub keeps : Keeps n line part r after
  unfolding over past
  keeps =
      let ends : n + length (take m part) ≡ n + m = omega (arith, many) in
      record {
        count = a.ends ∙ rw (le-leb (n + length (take m part)) (length line) room) (ends ∙ sym long);
        text = a.text ∙ rw (le-leb (n + length (take m part)) (length line) room)
            (ap (λ (k : ℕ). (take n line ++ take m part) ++ drop k line) (ends ∙ sym long)
            ∙ ap (λ (p : List ℕ). p ++ drop (length (fitting (take n line ++ part) line)) line) (sym fits));
      }
