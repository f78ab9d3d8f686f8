-- Bytes and n: 2, 3, and then the first rule that a field breaks. Assumes nothing.
use mathlib.Core.Bool.{Bool, true, false}
use mathlib.Core.List.{List}
use mathlib.Core.Logic.{◌↔◌}
use mathlib.Core.Path.{◌≡◌, refl}
use Prim.Native.Nat.{ℕ, ◌≤◌}
use native.Mathlib.Omega.{arith}
use lib.ListN.{take}
use Rattle.bits.specs.Bits.{bits_of}
use Rattle.format.specs.Judges.{Judges}
use Rattle.format.specs.Rules.{paper}
use Rattle.format.specs.Telegrams.{Entry, read}
use Rattle.format.specs.declared.Refusal.{Refusal}
use Rattle.laws.proofs.Bounds.{read_placed}
use Rattle.states.specs.Reader.{sized, clear, checked}
use Rattle.states.proofs.Answers.{judges, Sound, Unsound, sized_is, clear_is, sent_below, sent_few, fields_decide, check_judges}
use Rattle.states.proofs.Answers.Unsound.{missized, padded, failing}
use Rattle.given.proofs.Accepted.{kept_is, read_judged}
use Rattle.given.specs.Broken.Medium.{in_bits}
use Rattle.given.specs.Given.{Given, Accepted}
use Rattle.entrances.specs.Entrances.{BytesGiven, BytesAccepted, RoomGiven}
use Rattle.entrances.specs.Entrances.BytesGiven.{two, three, at_field}
use Rattle.entrances.specs.Entrances.RoomGiven.{one, otherwise}

-- a test that says just what a fact does
is_false : {A : Type 0} (b : Bool) → (b ≡ true) ↔ A → (A → ⊥) → b ≡ false
is_false true i n = absurd (n (i.0 refl))
is_false false i n = refl

false_not : {A : Type 0} (b : Bool) → (b ≡ true) ↔ A → b ≡ false → A → ⊥
false_not b i e a = let t = i.1 a in let z : ◌≡◌ {A = ℕ} 0 1 = cc in omega arith

module _ (s : List ℕ) (n : ℕ) where
  abbrev sent : List ℕ
  sent = take n (bits_of s)

  fields_judged : sized s n ≡ true → Judges (Accepted in_bits sent) (Given in_bits sent) (read paper sent)
  fields_judged h = read_judged sent (sent_below s n) (sent_few s n h)

  unsound_given : {r : Refusal} → Unsound paper s n r → BytesGiven s n r
  unsound_given (missized h) = two (false_not (sized s n) (sized_is s n) h)
  unsound_given (padded h g) = three ((sized_is s n).0 h) (false_not (clear s n) (clear_is s n) g)
  unsound_given (failing {r = r} h g f) =
      at_field ((sized_is s n).0 h) ((clear_is s n).0 g) (((fields_judged h).refuses r).0 (((fields_decide paper s n h).refuses r).1 f))

  given_unsound : {r : Refusal} → BytesGiven s n r → Unsound paper s n r
  given_unsound (two h) = missized (is_false (sized s n) (sized_is s n) h)
  given_unsound (three h g) = padded ((sized_is s n).1 h) (is_false (clear s n) (clear_is s n) g)
  given_unsound (at_field {r = r} h g f) =
      let t = (sized_is s n).1 h in
      failing t ((clear_is s n).1 g) (((fields_decide paper s n t).refuses r).0 (((fields_judged t).refuses r).1 f))

  sound_accepted : (es : List Entry) → Sound paper s n es → BytesAccepted s n es
  sound_accepted es h =
      record {
        sized = (sized_is s n).0 h.size;
        clear = (clear_is s n).0 h.padding;
        bits = record { kept = (kept_is es).0 h.telegram; same = h.is };
      }

  accepted_sound : (es : List Entry) → BytesAccepted s n es → Sound paper s n es
  accepted_sound es h =
      record {
        size = (sized_is s n).1 h.sized;
        padding = (clear_is s n).1 h.clear;
        telegram = (kept_is es).1 h.bits.kept;
        is = h.bits.same;
      }

  -- **Demand 1 of bytes and n**
  pub check_judged : Judges (BytesAccepted s n) (BytesGiven s n) (checked paper s n)
  check_judged =
      let d = check_judges paper s n in
      judges (BytesAccepted s n) (BytesGiven s n) (checked paper s n)
      (λ es. (λ e. sound_accepted es ((d.accepts es).0 e), λ a. (d.accepts es).1 (accepted_sound es a)))
      (λ r. (λ e. unsound_given ((d.refuses r).0 e), λ g. (d.refuses r).1 (given_unsound g)))

  -- the place is a bit of the telegram, or the bit after its last
  pub bytes_placed : (r : Refusal) → BytesGiven s n r → r.place ≤ 830
  bytes_placed r (two h) = omega arith
  bytes_placed r (three h g) = omega arith
  bytes_placed r (at_field h g f) =
      let t = (sized_is s n).1 h in
      read_placed sent r (sent_below s n) (sent_few s n t) (((fields_judged t).refuses r).1 f)

  pub room_placed : (need room : ℕ) (r : Refusal) → RoomGiven need room (BytesGiven s n) r → r.place ≤ 830
  room_placed need room r (one l) = omega arith
  room_placed need room r (otherwise l g) = bytes_placed r g
