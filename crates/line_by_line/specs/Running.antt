-- A program that answers line by line, from its start to where it stands. Definitions alone.
use Rattle.std.specs.Prelude.{◌≡◌, Bool, true, false, cond, not, ◌&&◌, ℕ, ◌≤◌, ◌<◌, ltb, length, take, Ok, Err, Result}
use mathlib.Core.List.{List, [], ◌++◌, IsPrefix}
use Rattle.blocks.specs.Reading.{nothing, TakesOn, Arrival}
use Rattle.blocks.specs.declared.ReadFailed.{ReadFailed}
use Rattle.blocks.specs.declared.Input.{Input}
use Rattle.queue.specs.Waiting.{waiting, Joins}
use Rattle.queue.specs.declared.Queue.{Queue}
use Rattle.line_by_line.specs.Lines.{whole_lines, answers, answers_to}
use Rattle.line_by_line.specs.Written.{front, spilled}

-- whether to read on: once a write failed, no further answer can arrive whole
abbrev pub goes_on : Input → Queue → ℕ → Bool
goes_on i q turns = not q.lost && not i.ended && ltb 0 turns

-- nothing waits, and nothing is lost
abbrev pub empty : Queue
empty = record { waiting = 0; lost = false }

-- ---- a turn

-- what a read brought
abbrev pub brought : List ℕ → Result ℕ ReadFailed → List ℕ
brought block (Ok n) = take n block
brought block (Err _) = []

-- what is put for the line in hand: the answer to what is kept of it, if it is whole
abbrev pub reply : (List ℕ → List ℕ) → List ℕ → Input → List ℕ
reply f line i = cond i.whole (f (take i.kept line)) []

-- what is handed over to be written meanwhile
abbrev pub handed : List ℕ → Queue → List ℕ → List ℕ
handed text q out = spilled text (waiting q.waiting out)

-- what waits to be written
abbrev pub waits : Queue → List ℕ → List ℕ
waits q out = front (waiting q.waiting out)

-- The program stands here: the reads brought `came` in all, and `gone` was handed over to be written. A turn is a step of reading, on the
-- rest of the block or on another, and puts the answer to the line in hand, if it is whole. There is no turn that leaves the answer out.
pub data Ran (f : List ℕ → List ℕ) : List ℕ → List ℕ → List ℕ → List ℕ → Input → List ℕ → Queue → Type 0 where
  begun : {block line out : List ℕ} → Ran f [] [] block line nothing out empty
  goes : {came gone block line out line' out' : List ℕ} {i r : Input} {q t : Queue} → Ran f came gone block line i out q → i.ended ≡ false
      → i.from < i.to → TakesOn block line i r line' → Joins (reply f line' r) q out t out'
      → Ran f came (gone ++ handed (reply f line' r) q out) block line' r out' t
  reads : {came gone block line out block' line' out' : List ℕ} {i r : Input} {q t : Queue} → Ran f came gone block line i out q → i.ended ≡ false
      → i.to ≤ i.from → (a : Arrival block' line i r line') → Joins (reply f line' r) q out t out'
      → Ran f (came ++ brought block' a.got) (gone ++ handed (reply f line' r) q out) block' line' r out' t

-- what is lent is enough: as much of a line finds room as tells its answer, and a character to be written does
pub record Enough (f : List ℕ → List ℕ) (line out : List ℕ) : Type 0 where
  pub tells : (text : List ℕ) → f (take (length line) text) ≡ f text
  pub some : 0 < length line
  pub room : 0 < length out

-- The program runs with enough, whatever came and went: no contract says what a call of the system read or wrote.
pub record Runs (f : List ℕ → List ℕ) (block line : List ℕ) (i : Input) (out : List ℕ) (q : Queue) : Type 0 where
  pub came : List ℕ
  pub gone : List ℕ
  pub ran : Ran f came gone block line i out q
  pub enough : Enough f line out

-- ---- what is then written

-- the input ended of itself
abbrev pub all_read : Input → Bool
all_read i = i.ended && not i.failed

-- What was handed over, and what waits behind it: the beginning of the text that the input is answered with, however it goes on; all of that
-- text, where the input ended of itself; and the answers to the lines that end in what came, where it could not be read on.
pub record Told (f : List ℕ → List ℕ) (came told : List ℕ) (i : Input) : Type 0 where
  pub begins : all_read i ≡ false → (more : List ℕ) → IsPrefix told (answers_to f (came ++ more))
  pub ends : all_read i ≡ true → told ≡ answers_to f came
  pub cut : i.ended ≡ true → i.failed ≡ true → told ≡ answers f (whole_lines came)

-- what a program knows before it writes the last that waits
pub record Answered (f : List ℕ → List ℕ) (i : Input) (out : List ℕ) (q : Queue) : Type 0 where
  pub block : List ℕ
  pub line : List ℕ
  pub came : List ℕ
  pub gone : List ℕ
  pub ran : Ran f came gone block line i out q
  pub told : Told f came (gone ++ waits q out) i
