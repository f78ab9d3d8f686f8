-- docs/RULES.md, "Refusal numbers": which refusal each entry point gives, and what it accepts, for every number. "Order: 1, then (reader and normaliser)
-- 2, 3, then field by field, the first broken rule wins". Definitions alone. (That a refusal leaves what is lent as it was is `read_Keeps`,
-- `write_keeps` and so on, `states`, proofs/Leaving.)
use Rattle.std.specs.Prelude.{List, ◌↔◌, ◌≡◌, ℕ, ◌+◌, ◌*◌, ◌<◌, ◌≤◌, length, take, drop, Ok, Err}
use Rattle.bits.specs.Bits.{bits_of, bytes_for, Below}
use Rattle.format.specs.Normal.{normal}
use Rattle.format.specs.Refusals.{number_of, Answer}
use Rattle.format.specs.Telegrams.{Entry}
use Rattle.format.specs.declared.Kind.TheVariants.{Room, Size, Padding}
use Rattle.format.specs.declared.Refusal.{Refusal}
use Rattle.given.specs.Broken.Medium.{in_bits, in_values}
use Rattle.given.specs.Given.{Given, Accepted}

-- ---- bytes and n

-- "2: n outside 58..830, or input is not ceil(n/8) bytes"
abbrev pub Sized : List ℕ → ℕ → Type 0
Sized s n = (58 ≤ n) × (n ≤ 830) × (length s ≡ bytes_for n)

-- "3: an unused low bit of the last byte is 1": each is 0
abbrev pub Clear : List ℕ → ℕ → Type 0
Clear s n = Below 1 (drop n (bits_of s))

-- "1 to 3 stay at place 0"
pub data BytesGiven (s : List ℕ) (n : ℕ) : Refusal → Type 0 where
  two : (Sized s n → ⊥) → BytesGiven s n (record { kind = Size; place = 0 })
  three : Sized s n → (Clear s n → ⊥) → BytesGiven s n (record { kind = Padding; place = 0 })
  at_field : {r : Refusal} → Sized s n → Clear s n → Given in_bits (take n (bits_of s)) r → BytesGiven s n r

pub record BytesAccepted (s : List ℕ) (n : ℕ) (es : List Entry) : Type 0 where
  pub sized : Sized s n
  pub clear : Clear s n
  pub bits : Accepted in_bits (take n (bits_of s)) es

-- ---- lent room

-- so many are needed, and so many are lent. Too few: 1, at place 0. Else what is given otherwise
pub data RoomGiven (need room : ℕ) (Otherwise : Refusal → Type 0) : Refusal → Type 0 where
  one : room < need → RoomGiven need room Otherwise (record { kind = Room; place = 0 })
  otherwise : {r : Refusal} → need ≤ room → Otherwise r → RoomGiven need room Otherwise r

pub record RoomAccepted (need room : ℕ) (Otherwise : List Entry → Type 0) (es : List Entry) : Type 0 where
  pub enough : need ≤ room
  pub accepted : Otherwise es

-- ---- each entry point: "1: output shorter than 830 values or 104 bytes"

-- the reader, lent a run of so many values
abbrev pub ReadGiven : List ℕ → ℕ → ℕ → Refusal → Type 0
ReadGiven s n room r = RoomGiven 830 room (BytesGiven s n) r

abbrev pub ReadAccepted : List ℕ → ℕ → ℕ → List Entry → Type 0
ReadAccepted s n room es = RoomAccepted 830 room (BytesAccepted s n) es

-- the writer, lent so many bytes
abbrev pub WriteGiven : List ℕ → ℕ → Refusal → Type 0
WriteGiven vs room r = RoomGiven 104 room (Given in_values vs) r

abbrev pub WriteAccepted : List ℕ → ℕ → List Entry → Type 0
WriteAccepted vs room es = RoomAccepted 104 room (Accepted in_values vs) es

-- the writer that names the fields, lent a run of so many numbers
abbrev pub LabelGiven : List ℕ → ℕ → Refusal → Type 0
LabelGiven vs room r = RoomGiven 830 room (Given in_values vs) r

abbrev pub LabelAccepted : List ℕ → ℕ → List Entry → Type 0
LabelAccepted vs room es = RoomAccepted 830 room (Accepted in_values vs) es

-- the normaliser, lent so many bytes; what it makes is the normal form of what is accepted
abbrev pub NormaliseGiven : List ℕ → ℕ → ℕ → Refusal → Type 0
NormaliseGiven s n room r = RoomGiven 104 room (BytesGiven s n) r

pub record NormalOf (Otherwise : List Entry → Type 0) (es : List Entry) : Type 0 where
  pub original : List Entry
  pub accepted : Otherwise original
  pub is : es ≡ normal original

abbrev pub NormaliseAccepted : List ℕ → ℕ → ℕ → List Entry → Type 0
NormaliseAccepted s n room es = RoomAccepted 104 room (NormalOf (BytesAccepted s n)) es

-- ---- answers

-- an answer: it is this refusal just where that is given, and a number just where that is the count of something accepted
pub record Answers (Right : List Entry → Type 0) (Wrong : Refusal → Type 0) (count : List Entry → ℕ) (answer : Answer) : Type 0 where
  pub accepts : (n : ℕ) → (answer ≡ Ok n) ↔ ((es : List Entry) × Right es × (n ≡ count es))
  pub refuses : (r : Refusal) → (answer ≡ Err r) ↔ Wrong r

-- "there the answer is 0, or 1,024 times the refusal number plus the place". A place is at most 830, so that the code tells number and place apart
pub record Coded (Right : List Entry → Type 0) (Wrong : Refusal → Type 0) (code : ℕ) : Type 0 where
  pub accepts : (code ≡ 0) ↔ ((es : List Entry) × Right es)
  pub refuses : (r : Refusal) → ((code ≡ 1024 * number_of r.kind + r.place) × (r.place ≤ 830)) ↔ Wrong r

-- ---- two telegrams, lent so many bytes for each normal form

-- what is refused of the first: "Order: 1, then .."; both rooms come before both telegrams
pub data FirstGiven (s : List ℕ) (n x y : ℕ) : Refusal → Type 0 where
  one : x < 104 → FirstGiven s n x y (record { kind = Room; place = 0 })
  checked : {r : Refusal} → 104 ≤ x → 104 ≤ y → BytesGiven s n r → FirstGiven s n x y r

-- and of the second, where the first is accepted
pub data SecondGiven (s : List ℕ) (n : ℕ) (t : List ℕ) (m x y : ℕ) : Refusal → Type 0 where
  one : 104 ≤ x → y < 104 → SecondGiven s n t m x y (record { kind = Room; place = 0 })
  checked : {r : Refusal} (es : List Entry) → 104 ≤ x → 104 ≤ y → BytesAccepted s n es → BytesGiven t m r → SecondGiven s n t m x y r

-- both are accepted
pub record BothAccepted (s : List ℕ) (n : ℕ) (t : List ℕ) (m x y : ℕ) : Type 0 where
  pub enough : (104 ≤ x) × (104 ≤ y)
  pub entries : List Entry
  pub others : List Entry
  pub first : BytesAccepted s n entries
  pub second : BytesAccepted t m others
