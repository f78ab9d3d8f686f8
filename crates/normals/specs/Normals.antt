-- Demand 3: "A normal form is itself accepted .. and normalising it again changes nothing". Definitions alone.
use Rattle.std.specs.Prelude.{List, ◌≡◌, ℕ, ◌≤◌, length}
use Rattle.format.specs.Refusals.{in_numbers, Answer}
use Rattle.format.specs.Rules.{Terms}
use Rattle.format.specs.Telegrams.{Entry, Result}
use Rattle.format.specs.Telegrams.Result.{accepted}
use Rattle.states.specs.Reader.{bytes_needed, checked, roomed, answered}
use Rattle.states.specs.Writer.{bytes_over}
use Rattle.states.specs.Normaliser.{normalise_into}

-- lent so many bytes for each: "1: output shorter than .. 104 bytes" for either, and then the reader's refusals
abbrev pub renormalise_into : Terms → List ℕ → ℕ → ℕ → ℕ → Result
renormalise_into p s n x y = roomed bytes_needed y (normalise_into p s n x)

-- the promise of `renormalised`: n comes back, with the same normal form in front of what x held and of what y held
pub record Renormalised (p : Terms) (s : List ℕ) (n : ℕ) (x y : List ℕ) (answer : Answer) (x_after y_after : List ℕ) : Type 0 where
  pub answers : in_numbers answer ≡ in_numbers (answered (λ es. n) (renormalise_into p s n (length x) (length y)))
  pub once : x_after ≡ bytes_over (renormalise_into p s n (length x) (length y)) x
  pub twice : y_after ≡ bytes_over (renormalise_into p s n (length x) (length y)) y

-- what a telegram needs to be normalised: it is accepted, and there is room for its normal form
pub record Ready (p : Terms) (s : List ℕ) (n : ℕ) (x : List ℕ) : Type 0 where
  pub entries : List Entry
  pub accepts : checked p s n ≡ accepted entries
  pub room : 104 ≤ length x
