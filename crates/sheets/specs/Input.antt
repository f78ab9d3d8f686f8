-- What the program reads of its input, and what it prints for it. Definitions alone.
use Rattle.std.specs.Prelude.{◌≡◌, List, ℕ, ◌≤◌, length, take}

-- the first n bytes of a buffer are the input, or as much of it as the buffer holds: what is left there by reading until it is full or the
-- input ends
abbrev pub Holds : List ℕ → ℕ → List ℕ → Type 0
Holds buffer n input = take n buffer ≡ take (length buffer) input

-- what is printed is the answer to the input, whatever stands behind the bytes that a buffer holds of it: no contract says what was read
pub record Prints (f : List ℕ → List ℕ) (text : List ℕ) : Type 0 where
  pub buffer : List ℕ
  pub n : ℕ
  pub within : n ≤ length buffer
  pub answers : (input : List ℕ) → Holds buffer n input → text ≡ f input
