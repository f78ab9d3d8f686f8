-- docs/RULES.md, "Telegrams": what the reader and the check answer, and what the lent run of values then holds. Definitions alone.
use Rattle.std.specs.Prelude.{◌≡◌, Bool, cond, ◌&&◌, List, ◌++◌, ℕ, eqb, leb, length, take, drop, Ok, Err}
use Rattle.bits.specs.Bits.{value_of, bits_of, bytes_for}
use Rattle.format.specs.Refusals.{in_numbers, Answer}
use Rattle.format.specs.Rules.{Terms}
use Rattle.format.specs.Telegrams.{Entry, Result, read, values}
use Rattle.format.specs.Telegrams.Result.{accepted, refused}
use Rattle.format.specs.declared.Kind.{Kind}
use Rattle.format.specs.declared.Kind.TheVariants.{Room, Size, Padding}
use Rattle.format.specs.declared.Refusal.{Refusal}

-- "A telegram is a string of n bits, 58 ≤ n ≤ 830, in bytes"; "2: n outside 58..830, or input is not ceil(n/8) bytes"
abbrev pub sized : List ℕ → ℕ → Bool
sized s n = leb 58 n && leb n 830 && eqb (length s) (bytes_for n)

-- "Unused low bits of the last byte are 0"; "3: an unused low bit of the last byte is 1"
abbrev pub clear : List ℕ → ℕ → Bool
clear s n = eqb (value_of (drop n (bits_of s))) 0

-- "The place is 0 for 1, 2, 3"
abbrev pub early : Kind → Refusal
early k = record { kind = k; place = 0 }

abbrev pub at_once : Kind → Result
at_once k = refused (early k)

-- "1: output shorter than 830 values or 104 bytes"
abbrev pub values_needed : ℕ
values_needed = 830

abbrev pub bytes_needed : ℕ
bytes_needed = 104

-- what comes of a call that needs so many and is lent room for so many. "Order: 1, then .."
abbrev pub roomed : ℕ → ℕ → Result → Result
roomed need room r = cond (leb need room) r (at_once Room)

-- the check of bytes and n. "Order: .. 2, 3, then field by field, the first broken rule wins"
unfoldable pub checked : Terms → List ℕ → ℕ → Result
checked p s n = cond (sized s n) (cond (clear s n) (read p (take n (bits_of s))) (at_once Padding)) (at_once Size)

-- the reader, lent a run of so many values
unfoldable pub read_into : Terms → List ℕ → ℕ → ℕ → Result
read_into p s n room = roomed values_needed room (checked p s n)

-- an answer: a count of an accepted telegram, or the refusal as it stands
abbrev pub answered : (List Entry → ℕ) → Result → Answer
answered count (accepted es) = Ok (count es)
answered count (refused r) = Err r

-- "Gives the count"
abbrev pub answer_of : Result → Answer
answer_of r = answered (λ es. length (values es)) r

-- "one value per field in order of sending"; "output past the last value .. keeps its former contents"; "A refusal .. changes no output"
abbrev pub values_over : Result → List ℕ → List ℕ
values_over (accepted es) before = values es ++ drop (length (values es)) before
values_over (refused r) before = before

-- the promise of `read`
pub record Read (p : Terms) (s : List ℕ) (n : ℕ) (before : List ℕ) (answer : Answer) (after : List ℕ) : Type 0 where
  pub answers : in_numbers answer ≡ in_numbers (answer_of (read_into p s n (length before)))
  pub contents : after ≡ values_over (read_into p s n (length before)) before
