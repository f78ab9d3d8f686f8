-- Which field each value of a list is: what the function answers that says it, and what the lent run of numbers then holds. Definitions alone.
use Rattle.std.specs.Prelude.{◌≡◌, List, [], ◌∷◌, ◌++◌, ℕ, ◌≤◌, length, drop}
use Rattle.format.specs.Refusals.{in_numbers, Answer}
use Rattle.format.specs.Rules.{Terms, paper}
use Rattle.format.specs.Table.{act, field_at, number_by}
use Rattle.format.specs.Telegrams.{Entry, Result, Telegram, all, values, write}
use Rattle.format.specs.Telegrams.Result.{accepted, refused}
use Rattle.states.specs.Reader.{values_needed, roomed}
use Rattle.states.specs.Writer.{size_of}

-- the number of each entry's field, in order of sending; the end mark's is END's
unfoldable pub numbers_in : Entry → List ℕ
numbers_in e = e.field.number ∷ []

abbrev pub numbers : List Entry → List ℕ
numbers es = all numbers_in es

-- the writer without its bytes, lent a run of so many numbers; a telegram has at most 830 fields
unfoldable pub label_into : Terms → List ℕ → ℕ → Result
label_into p vs room = roomed values_needed room (write p vs)

-- the numbers in front, and behind them what was there; a refusal changes nothing
abbrev pub numbers_over : Result → List ℕ → List ℕ
numbers_over (accepted es) before = numbers es ++ drop (length (numbers es)) before
numbers_over (refused r) before = before

-- the promise of `label`
pub record Label (p : Terms) (vs : List ℕ) (before : List ℕ) (answer : Answer) (after : List ℕ) : Type 0 where
  pub answers : in_numbers answer ≡ in_numbers (size_of (label_into p vs (length before)))
  pub contents : after ≡ numbers_over (label_into p vs (length before)) before

-- ---- the second run, over values that are an accepted telegram

pub record Labelling (vs : List ℕ) (out : List ℕ) : Type 0 where
  pub entries : List Entry
  pub telegram : Telegram paper entries
  pub same : vs ≡ values entries
  pub room : 830 ≤ length out

-- the numbers of that telegram's fields stand in front, and behind them is what was there
abbrev pub Labelled : List ℕ → List ℕ → List ℕ → Type 0
Labelled vs before after = (es : List Entry) → Telegram paper es → vs ≡ values es → after ≡ numbers_over (accepted es) before

-- the number of the field due in row k, which is no group's end, with the value v: between packets 255 is the end mark
abbrev pub number_at : ℕ → ℕ → ℕ
number_at k v = number_by (act k) v (field_at k).number
