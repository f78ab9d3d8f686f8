-- Which refusal each function gives, and what it accepts, from its promise alone. Assumes nothing.
use mathlib.Core.List.{List}
use mathlib.Core.Path.{◌≡◌}
use Prim.Native.Nat.{ℕ}
use lib.ListN.{length}
use Rattle.format.specs.Judges.{Judges}
use Rattle.format.specs.Refusals.{in_numbers, Answer}
use Rattle.format.specs.Rules.{paper}
use Rattle.format.specs.Telegrams.{Entry, values, bit_count}
use Rattle.states.specs.Labels.{Label, label_into}
use Rattle.states.specs.Normaliser.{Normalise, normalise_into}
use Rattle.states.specs.Reader.{Read, checked, read_into, answer_of}
use Rattle.states.specs.Writer.{Write, write_into}
use Rattle.given.proofs.Accepted.{write_judged}
use Rattle.entrances.specs.Entrances.{BytesGiven, BytesAccepted, ReadGiven, ReadAccepted, WriteGiven, WriteAccepted, LabelGiven, LabelAccepted, NormaliseGiven, NormaliseAccepted, Answers}
use Rattle.entrances.proofs.Lifted.{room_judged, normal_judged, answers_just}
use Rattle.entrances.proofs.Bytes.{check_judged}

-- ---- what comes of a call

pub read_in_judged : (s : List ℕ) (n room : ℕ) → Judges (ReadAccepted s n room) (ReadGiven s n room) (read_into paper s n room)
unfolding read_into
read_in_judged s n room = room_judged (check_judged s n) 830 room

pub normalise_judged : (s : List ℕ) (n room : ℕ) → Judges (NormaliseAccepted s n room) (NormaliseGiven s n room) (normalise_into paper s n room)
unfolding normalise_into
normalise_judged s n room = room_judged (normal_judged (check_judged s n)) 104 room

pub write_in_judged : (vs : List ℕ) (room : ℕ) → Judges (WriteAccepted vs room) (WriteGiven vs room) (write_into paper vs room)
unfolding write_into
write_in_judged vs room = room_judged (write_judged vs) 104 room

pub label_judged : (vs : List ℕ) (room : ℕ) → Judges (LabelAccepted vs room) (LabelGiven vs room) (label_into paper vs room)
unfolding label_into
label_judged vs room = room_judged (write_judged vs) 830 room

-- ---- `telegram`: check, read, normalise, write and label

-- "Gives the count", one for each value
abbrev counted : List Entry → ℕ
counted es = length (values es)

pub check_answers : (s : List ℕ) (n : ℕ) (a : Answer) → in_numbers a ≡ in_numbers (answer_of (checked paper s n))
    → Answers (BytesAccepted s n) (BytesGiven s n) counted a
check_answers s n a h = answers_just (check_judged s n) counted a h

module _ {before after : List ℕ} {a : Answer} where
  pub read_answers : {s : List ℕ} {n : ℕ} → Read paper s n before a after
      → Answers (ReadAccepted s n (length before)) (ReadGiven s n (length before)) counted a
  read_answers {s} {n} h = answers_just (read_in_judged s n (length before)) counted a h.answers

  pub normalise_answers : {s : List ℕ} {n : ℕ} → Normalise paper s n before a after
      → Answers (NormaliseAccepted s n (length before)) (NormaliseGiven s n (length before)) bit_count a
  normalise_answers {s} {n} h = answers_just (normalise_judged s n (length before)) bit_count a h.answers

  pub write_answers : {vs : List ℕ} → Write paper vs before a after
      → Answers (WriteAccepted vs (length before)) (WriteGiven vs (length before)) bit_count a
  write_answers {vs} h = answers_just (write_in_judged vs (length before)) bit_count a h.answers

  pub label_answers : {vs : List ℕ} → Label paper vs before a after
      → Answers (LabelAccepted vs (length before)) (LabelGiven vs (length before)) bit_count a
  label_answers {vs} h = answers_just (label_judged vs (length before)) bit_count a h.answers
