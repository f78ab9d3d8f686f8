-- How much of an input is its line. Assumes nothing.
use mathlib.Core.Path.{◌≡◌, refl}
use mathlib.Core.Bool.{Bool, true, false, cond}
use mathlib.Core.List.{List, [], ◌∷◌}
use Prim.Native.Nat.{ℕ, ◌+◌, ◌-◌, ◌≤◌}
use native.Mathlib.Omega.{arith}
use borrow.Author.Tests.{eq-eqb, ne_eqb}
use lib.Dec.{eqb}
use lib.ListN.{length, get_or}
use Rattle.line_text.specs.Lines.{line_length}

pub line_none : (input : List ℕ) → length input ≡ 0 → length input ≡ line_length input
unfolding line_length
line_none [] e = refl
line_none (c ∷ cs) e = absurd (omega arith)

pub line_ended : (input : List ℕ) → get_or input (length input - 1) 0 ≡ 10 → length input - 1 ≡ line_length input
unfolding line_length
line_ended input e = rw (eq-eqb (get_or input (length input - 1) 0) 10 e)

pub line_open : (input : List ℕ) → (get_or input (length input - 1) 0 ≡ 10 → ⊥) → length input ≡ line_length input
unfolding line_length
line_open input e = rw (ne_eqb (get_or input (length input - 1) 0) 10 e)

pub line_few : (input : List ℕ) → line_length input ≤ length input
unfolding line_length
line_few input = by (eqb (get_or input (length input - 1) 0) 10)
  where
    by : (b : Bool) → cond b (length input - 1) (length input) ≤ length input
    by true = omega arith
    by false = omega arith

pub line_many : (input : List ℕ) → length input ≤ line_length input + 1
unfolding line_length
line_many input = by (eqb (get_or input (length input - 1) 0) 10)
  where
    by : (b : Bool) → length input ≤ cond b (length input - 1) (length input) + 1
    by true = omega arith
    by false = omega arith
