-- Where the reading of lines stands, and one step of it. Definitions alone.
use Rattle.std.specs.Prelude.{◌≡◌, Bool, true, false, cond, List, [], ◌++◌, ℕ, ◌+◌, ◌≤◌, ◌<◌, min, eqb, ltb, length, take, drop, Ok, Err, Result}
use Rattle.blocks.specs.Ends.{up_to_end, ends}
use Rattle.blocks.specs.declared.ReadFailed.{ReadFailed}
use Rattle.blocks.specs.declared.Input.{Input}

-- no more bytes were read into a buffer than it has
abbrev pub Within : List ℕ → Result ℕ ReadFailed → Type 0
Within buffer (Ok n) = n ≤ length buffer
Within buffer (Err _) = Unit

-- nothing is read yet
abbrev pub nothing : Input
nothing = record { from = 0; to = 0; kept = 0; whole = false; ended = false; failed = false }

-- ---- a block taken on

-- what is left of a block
abbrev pub left : List ℕ → Input → List ℕ
left block i = drop i.from (take i.to block)

-- what is kept of the line in hand; behind a whole line another begins
abbrev pub held : List ℕ → Input → List ℕ
held line i = cond i.whole [] (take i.kept line)

-- as many of the first characters of a text as find room in what is lent for the line
abbrev pub fitting : List ℕ → List ℕ → List ℕ
fitting text line = take (length line) text

-- what is lent, with these characters at its front
abbrev pub over : List ℕ → List ℕ → List ℕ
over text line = fitting text line ++ drop (length (fitting text line)) line

-- the line in hand, up to the next newline or the end of the block
unfoldable pub in_hand : List ℕ → List ℕ → Input → List ℕ
in_hand block line i = held line i ++ take (up_to_end (left block i)) (left block i)

abbrev pub stop : List ℕ → Input → ℕ
stop block i = min i.to (length block)

-- where reading then stands: behind the newline, or at the end of the block
unfoldable pub taken_on : List ℕ → List ℕ → Input → Input
taken_on block line i =
    record {
      from = cond (ends (left block i)) (i.from + up_to_end (left block i) + 1) (stop block i);
      to = stop block i;
      kept = length (fitting (in_hand block line i) line);
      whole = ends (left block i);
      ended = i.ended;
      failed = i.failed;
    }

-- the promise of `take_on`: where reading then stands, and what the line holds
pub record TakesOn (block line : List ℕ) (i r : Input) (line' : List ℕ) : Type 0 where
  pub stands : r ≡ taken_on block line i
  pub text : line' ≡ over (in_hand block line i) line

-- ---- a block that arrives

-- the input ends behind so many characters of a line: "A last line with no newline counts if it is not empty"
abbrev pub stopped : ℕ → Bool → Input
stopped n failed = record { from = 0; to = 0; kept = n; whole = ltb 0 n; ended = true; failed = failed }

-- the first n bytes of a block are still to be taken on
abbrev pub fresh : ℕ → Input → Input
fresh n i = record { from = 0; to = n; kept = i.kept; whole = i.whole; ended = false; failed = false }

-- where reading then stands, by what a read brought: a line whose rest cannot be read gets no answer
abbrev pub arrived_at : List ℕ → List ℕ → Input → Result ℕ ReadFailed → Input
arrived_at block line i (Err _) = stopped 0 true
arrived_at block line i (Ok n) = cond (eqb n 0) (stopped (length (held line i)) false) (taken_on block line (fresh n i))

-- what the line then holds
abbrev pub arrived_line : List ℕ → List ℕ → Input → Result ℕ ReadFailed → List ℕ
arrived_line block line i (Err _) = line
arrived_line block line i (Ok n) = cond (eqb n 0) line (over (in_hand block line (fresh n i)) line)

-- the promise of `arrived`
pub record Arrives (block line : List ℕ) (i : Input) (got : Result ℕ ReadFailed) (r : Input) (line' : List ℕ) : Type 0 where
  pub stands : r ≡ arrived_at block line i got
  pub text : line' ≡ arrived_line block line i got

-- something was read into the block, or nothing, which hangs on the outside, and is taken on
pub record Arrival (block line : List ℕ) (i r : Input) (line' : List ℕ) : Type 0 where
  pub got : Result ℕ ReadFailed
  pub within : Within block got
  pub arrives : Arrives block line i got r line'

-- the promise of `next`: behind the end all stays as it was; else what is left of the block is taken on, or what a read brought
pub record Steps (block line : List ℕ) (i r : Input) (block' line' : List ℕ) : Type 0 where
  pub stays : i.ended ≡ true → (r ≡ i) × (block' ≡ block) × (line' ≡ line)
  pub goes : i.ended ≡ false → i.from < i.to → (block' ≡ block) × TakesOn block line i r line'
  pub reads : i.ended ≡ false → i.to ≤ i.from → Arrival block' line i r line'

-- ---- inside

-- so many characters of the line in hand are kept
pub record Held (line : List ℕ) (i : Input) (n : ℕ) : Type 0 where
  pub within : n ≤ length line
  pub text : take n line ≡ held line i

-- a part was put behind the first n characters of a line, as far as there is room: now r are kept
pub record Keeps (n : ℕ) (line part : List ℕ) (r : ℕ) (line' : List ℕ) : Type 0 where
  pub count : r ≡ length (fitting (take n line ++ part) line)
  pub text : line' ≡ over (take n line ++ part) line
