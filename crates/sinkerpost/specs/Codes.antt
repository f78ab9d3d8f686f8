-- docs/RULES.md, "Telegrams": what checking and normalising answer where they are called from C. Definitions alone.
use Rattle.std.specs.Prelude.{◌≡◌, List, ℕ, ◌≤◌, length, Ok, Err}
use Rattle.format.specs.Refusals.{code_of, Answer}
use Rattle.format.specs.Rules.{Terms}
use Rattle.states.specs.Reader.{checked, answer_of}
use Rattle.states.specs.Writer.{size_of, bytes_over}
use Rattle.states.specs.Normaliser.{normalise_into}

-- "there the answer is 0, or 1,024 times the refusal number plus the place"
abbrev pub check_code : Terms → List ℕ → ℕ → ℕ
check_code p s n = code_of (answer_of (checked p s n))

-- the same of the normaliser, and what the lent bytes then hold
pub record Normalise (p : Terms) (s : List ℕ) (n : ℕ) (before : List ℕ) (answer : ℕ) (after : List ℕ) : Type 0 where
  pub answers : answer ≡ code_of (size_of (normalise_into p s n (length before)))
  pub contents : after ≡ bytes_over (normalise_into p s n (length before)) before

-- a place is a bit of a telegram, or the bit after its last
abbrev pub Placed : Answer → Type 0
Placed (Ok n) = Unit
Placed (Err r) = r.place ≤ 830
