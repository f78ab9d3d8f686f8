-- Demand 2: "What is read and written again is the same telegram; what is written and read again is the same list of values".
-- Definitions alone.
use Rattle.std.specs.Prelude.{List, ◌++◌, ◌≡◌, ℕ, length, drop}
use Rattle.format.specs.Refusals.{in_numbers, Answer}
use Rattle.format.specs.Rules.{Terms}
use Rattle.format.specs.Telegrams.{Result}
use Rattle.format.specs.Telegrams.Result.{accepted, refused}
use Rattle.states.specs.Reader.{values_needed, bytes_needed, roomed, answered, read_into, values_over}
use Rattle.states.specs.Writer.{write_into, bytes_over}

-- what the second of the two leaves: what the first began with, and behind it what was there; "A refusal .. changes no output"
abbrev pub restored : List ℕ → Result → List ℕ → List ℕ
restored same (accepted es) before = same ++ drop (length same) before
restored same (refused r) before = before

-- ---- read, and written again

-- lent a run of so many values, and so many bytes: "1: output shorter than 830 values or 104 bytes", whichever it is, and then the reader's refusals.
-- The writer has none left
abbrev pub rewrite_into : Terms → List ℕ → ℕ → ℕ → ℕ → Result
rewrite_into p s n run out = roomed bytes_needed out (read_into p s n run)

-- the promise of `rewritten`: n and the bytes s come back, and the run holds what reading leaves there
pub record Rewritten (p : Terms) (s : List ℕ) (n : ℕ) (run out : List ℕ) (answer : Answer) (run_after out_after : List ℕ) : Type 0 where
  pub answers : in_numbers answer ≡ in_numbers (answered (λ es. n) (rewrite_into p s n (length run) (length out)))
  pub values : run_after ≡ values_over (rewrite_into p s n (length run) (length out)) run
  pub telegram : out_after ≡ restored s (rewrite_into p s n (length run) (length out)) out

-- ---- written, and read again

-- lent so many bytes, and a run of so many values: 1 for either, and then the writer's refusals. The reader has none left
abbrev pub reread_into : Terms → List ℕ → ℕ → ℕ → Result
reread_into p vs out run = roomed values_needed run (write_into p vs out)

-- the promise of `reread`: the values vs and their count come back, and the bytes hold what writing leaves there
pub record Reread (p : Terms) (vs out run : List ℕ) (answer : Answer) (out_after run_after : List ℕ) : Type 0 where
  pub answers : in_numbers answer ≡ in_numbers (answered (λ es. length vs) (reread_into p vs (length out) (length run)))
  pub telegram : out_after ≡ bytes_over (reread_into p vs (length out) (length run)) out
  pub values : run_after ≡ restored vs (reread_into p vs (length out) (length run)) run
