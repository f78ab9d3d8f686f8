-- What the answers of the check and of the reader say: which number is given when, and that an accepted telegram is tiled. For any terms. Assumes
-- nothing.
use Rattle.std.specs.Prelude.{Ok, Err}
use mathlib.Core.Bool.{Bool, true, false, cond, ◌&&◌}
use mathlib.Core.List.{List, [], ◌∷◌}
use mathlib.Core.Logic.{◌↔◌, ◌⊎◌, inl, inr}
use mathlib.Core.Option.{Option, some, none}
use mathlib.Core.Path.{◌≡◌, refl, sym, ap, ◌∙◌}
use Prim.Native.Nat.{ℕ, zero, suc, ◌+◌, ◌*◌, ◌^◌, ◌≤◌, ◌<◌}
use native.Mathlib.Nat.{suc-mul}
use native.Mathlib.Omega.{arith}
use borrow.Author.Tests.{leb-true, leb-false, le-leb, lt-leb, eqb-true, eq-eqb}
use lib.Dec.{eqb, leb}
use lib.Pow.{pow_pos}
use lib.ListN.{length, take, drop, length-append}
use lib.Seq.{length-take-le}
use Rattle.bits.specs.Bits.{digits, value_of, bits_of, bytes_for, Below}
use Rattle.bits.proofs.Digits.{length_digits}
use Rattle.bits.proofs.Bytes.{below_bits_of, below_take, length_bits_of}
use Rattle.format.specs.Judges.{Judges}
use Rattle.format.specs.Refusals.{number_of}
use Rattle.format.specs.Rules.{Terms, State, begun, field, past, next, broken, onward, verdict, step}
use Rattle.format.specs.Rules.Next.{breaks}
use Rattle.format.specs.Telegrams.{Entry, Result, Telegram, bits, values, values_in, bits_in, read, got_if, from_bits}
use Rattle.format.specs.Telegrams.Taken.{lacks}
use Rattle.format.specs.Telegrams.Result.{accepted, refused}
use Rattle.format.specs.declared.Kind.{Kind}
use Rattle.format.specs.declared.Kind.TheVariants.{Room, Size, Padding, Ended}
use Rattle.format.specs.declared.Refusal.{Refusal}
use Rattle.laws.proofs.Refused.{Refused, Decides, read_decides}
use Rattle.laws.proofs.Refused.Refused.{lacking, breaking, trailing, later}
use Rattle.laws.proofs.Sources.{width_positive}
use Rattle.laws.proofs.Tile.{Tiled, tiled, bit_counts}
use Rattle.states.specs.Reader.{early, sized, clear, checked, read_into, answer_of}
use Rattle.laws.proofs.Order.{of_value_number, onward_breaks, broken_of_value, rule_due, noted_at}

-- ---- which number is given when

module _ (Right : List Entry → Type 0) (Wrong : Refusal → Type 0) where
  one_of : (answer : Result) → ((es : List Entry) → answer ≡ accepted es → Right es) → ((r : Refusal) → answer ≡ refused r → Wrong r)
      → ((es : List Entry) × Right es) ⊎ ((r : Refusal) × Wrong r)
  one_of (accepted es) a b = inl (es, a es refl)
  one_of (refused r) a b = inr (r, b r refl)

  pub judges : (answer : Result) → ((es : List Entry) → (answer ≡ accepted es) ↔ Right es) → ((r : Refusal) → (answer ≡ refused r) ↔ Wrong r)
      → Judges Right Wrong answer
  judges answer a b =
      record {
        accepts = a;
        refuses = b;
        found = one_of answer (λ es. (a es).0) (λ r. (b r).0);
        never_both = λ es r h g. let ea = (a es).1 h in let er = (b r).1 g in let z : ◌≡◌ {A = ℕ} 0 1 = cc in omega arith;
        one_right = λ es fs h g. let ea = (a es).1 h in let eb = (a fs).1 g in cc;
        one_wrong = λ r q h g. let ea = (b r).1 h in let eb = (b q).1 g in cc;
      }

-- what an answer says of the result behind it
pub answer_accepted : (a : Result) (count : ℕ) → (Ok count ≡ answer_of a) ↔ ((es : List Entry) × (a ≡ accepted es) × (count ≡ length (values es)))
answer_accepted (accepted es) count = (λ h. (es, refl, cc), λ h. let e : es ≡ h.0 = cc in rw e (cc))
answer_accepted (refused r) count = (λ h. let z : ◌≡◌ {A = ℕ} 0 1 = cc in absurd (omega arith), λ h. cc)

pub answer_refused : (a : Result) (r : Refusal) → (Err r ≡ answer_of a) ↔ (a ≡ refused r)
answer_refused (accepted es) r = (λ h. cc, λ h. cc)
answer_refused (refused q) r = (λ h. cc, λ h. cc)

-- "2: n outside 58..830, or input is not ceil(n/8) bytes": the test says just that
pub sized_is : (s : List ℕ) (n : ℕ) → (sized s n ≡ true) ↔ ((58 ≤ n) × (n ≤ 830) × (length s ≡ bytes_for n))
sized_is s n = (λ h. by_tests (leb 58 n) (leb n 830) (eqb (length s) (bytes_for n)) refl refl refl h, λ h. rw (le-leb 58 n h.0, le-leb n 830 h.1, eq-eqb (length s) (bytes_for n) h.2))
  where
    by_tests : (a b c : Bool) → leb 58 n ≡ a → leb n 830 ≡ b → eqb (length s) (bytes_for n) ≡ c → (a && b && c) ≡ true
        → (58 ≤ n) × (n ≤ 830) × (length s ≡ bytes_for n)
    by_tests true true true ea eb ec h = (leb-true 58 n ea, leb-true n 830 eb, eqb-true (length s) (bytes_for n) ec)
    by_tests true true false ea eb ec h = let z : ◌≡◌ {A = ℕ} 0 1 = cc in absurd (omega arith)
    by_tests true false c ea eb ec h = let z : ◌≡◌ {A = ℕ} 0 1 = cc in absurd (omega arith)
    by_tests false b c ea eb ec h = let z : ◌≡◌ {A = ℕ} 0 1 = cc in absurd (omega arith)

-- "3: an unused low bit of the last byte is 1": the test says that each is 0
value_zero : (bs : List ℕ) → (value_of bs ≡ 0) ↔ Below 1 bs
unfolding value_of
value_zero [] = (λ h. tt, λ h. refl)
value_zero (zero ∷ bs) =
    let r = value_zero bs in
    (λ h. (omega arith, r.0 (sym (zero_front (2 ^ length bs) (value_of bs)) ∙ h)), λ h. zero_front (2 ^ length bs) (value_of bs) ∙ r.1 h.1)
  where
    zero_front : (a b : ℕ) → zero * a + b ≡ b
    zero_front a b = omega arith
value_zero (suc b ∷ bs) = (λ h. absurd (positive b (2 ^ length bs) (value_of bs) (pow_pos (length bs)) h), λ h. let z = h.0 in absurd (omega arith))
  where
    positive : (b a c : ℕ) → 0 < a → suc b * a + c ≡ 0 → ⊥
    positive b a c l h = let e = suc-mul b a in omega arith

pub clear_is : (s : List ℕ) (n : ℕ) → (clear s n ≡ true) ↔ Below 1 (drop n (bits_of s))
clear_is s n =
    let z = value_zero (drop n (bits_of s)) in
    (λ h. z.0 (eqb-true (value_of (drop n (bits_of s))) 0 h), λ h. eq-eqb (value_of (drop n (bits_of s))) 0 (z.1 h))

-- what the check accepts: bytes and n of the right size, 0 in the unused bits, and the bits of a telegram before them
pub record Sound (p : Terms) (s : List ℕ) (n : ℕ) (es : List Entry) : Type 0 where
  pub size : sized s n ≡ true
  pub padding : clear s n ≡ true
  pub telegram : Telegram p es
  pub is : take n (bits_of s) ≡ bits es

-- what it refuses: "2, 3, then field by field, the first broken rule wins"
pub data Unsound (p : Terms) (s : List ℕ) (n : ℕ) : Refusal → Type 0 where
  missized : sized s n ≡ false → Unsound p s n (early Size)
  padded : sized s n ≡ true → clear s n ≡ false → Unsound p s n (early Padding)
  failing : {r : Refusal} → sized s n ≡ true → clear s n ≡ true → Refused p from_bits begun (take n (bits_of s)) r → Unsound p s n r

-- the bits that are sent: each is 0 or 1, and there are n of them
module _ (s : List ℕ) (n : ℕ) where
  pub sent_below : Below 2 (take n (bits_of s))
  sent_below = below_take 2 n (bits_of s) (below_bits_of s)

  length_sent : sized s n ≡ true → length (take n (bits_of s)) ≡ n
  length_sent h = let z = (sized_is s n).0 h in length-take-le n (bits_of s) (rw (length_bits_of s) (omega arith))

  pub sent_few : sized s n ≡ true → length (take n (bits_of s)) ≤ 830
  sent_few h = rw (length_sent h) ((sized_is s n).0 h).1

module _ (p : Terms) (s : List ℕ) (n : ℕ) where
  abbrev sent : List ℕ
  sent = take n (bits_of s)

  pub fields_decide : sized s n ≡ true → Decides p from_bits bits_in begun sent (read p sent)
  fields_decide h = read_decides p sent (sent_below s n) (sent_few s n h)

  abbrev answer_by : Bool → Bool → Result
  answer_by a b = cond a (cond b (read p sent) (refused (early Padding))) (refused (early Size))

  sound : (a b : Bool) (es : List Entry) → sized s n ≡ a → clear s n ≡ b → answer_by a b ≡ accepted es → Sound p s n es
  sound true true es ea eb h =
      let d = ((fields_decide ea).accepts es).0 h in
      record { size = ea; padding = eb; telegram = d.0; is = d.1 }
  sound true false es ea eb h = let z : ◌≡◌ {A = ℕ} 0 1 = cc in absurd (omega arith)
  sound false b es ea eb h = let z : ◌≡◌ {A = ℕ} 0 1 = cc in absurd (omega arith)

  unsound : (a b : Bool) (r : Refusal) → sized s n ≡ a → clear s n ≡ b → answer_by a b ≡ refused r → Unsound p s n r
  unsound true true r ea eb h = failing ea eb (((fields_decide ea).refuses r).0 h)
  unsound true false r ea eb h = let e : early Padding ≡ r = cc in rw (← e) (padded ea eb)
  unsound false b r ea eb h = let e : early Size ≡ r = cc in rw (← e) (missized ea)

  is_unsound : {r : Refusal} → Unsound p s n r → checked p s n ≡ refused r
  unfolding checked
  is_unsound (missized h) = rw h
  is_unsound (padded h g) = rw (h, g)
  is_unsound (failing {r = r} h g f) = rw (h, g) (((fields_decide h).refuses r).1 f)

  -- the check's answer
  pub check_judges : Judges (Sound p s n) (Unsound p s n) (checked p s n)
  unfolding checked
  check_judges =
      judges (Sound p s n) (Unsound p s n) (checked p s n)
      (λ es. (
        sound (sized s n) (clear s n) es refl refl,
        λ h. rw (h.size, h.padding) (((fields_decide h.size).accepts es).1 (h.telegram, h.is)),
      ))
      (λ r. (unsound (sized s n) (clear s n) r refl refl, is_unsound))

-- what the reader refuses, lent a run of so many values: "1, then .. 2, 3"; and what it accepts
pub data Unread (p : Terms) (s : List ℕ) (n room : ℕ) : Refusal → Type 0 where
  roomless : room < 830 → Unread p s n room (early Room)
  checking : {r : Refusal} → 830 ≤ room → Unsound p s n r → Unread p s n room r

abbrev pub Readable : Terms → List ℕ → ℕ → ℕ → List Entry → Type 0
Readable p s n room es = (830 ≤ room) × Sound p s n es

module _ (p : Terms) (s : List ℕ) (n room : ℕ) where
  abbrev read_by : Bool → Result
  read_by a = cond a (checked p s n) (refused (early Room))

  readable : (a : Bool) (es : List Entry) → leb 830 room ≡ a → read_by a ≡ accepted es → Readable p s n room es
  readable true es e h = (leb-true 830 room e, ((check_judges p s n).accepts es).0 h)
  readable false es e h = let z : ◌≡◌ {A = ℕ} 0 1 = cc in absurd (omega arith)

  unread : (a : Bool) (r : Refusal) → leb 830 room ≡ a → read_by a ≡ refused r → Unread p s n room r
  unread true r e h = checking (leb-true 830 room e) (((check_judges p s n).refuses r).0 h)
  unread false r e h = let q : early Room ≡ r = cc in rw (← q) (roomless (leb-false 830 room e))

  is_unread : {r : Refusal} → Unread p s n room r → read_into p s n room ≡ refused r
  unfolding read_into
  is_unread (roomless h) = rw (lt-leb 830 room h)
  is_unread (checking {r = r} h f) = rw (le-leb 830 room h) (((check_judges p s n).refuses r).1 f)

  -- the reader's answer
  pub read_judges : Judges (Readable p s n room) (Unread p s n room) (read_into p s n room)
  unfolding read_into
  read_judges =
      judges (Readable p s n room) (Unread p s n room) (read_into p s n room)
      (λ es. (readable (leb 830 room) es refl, λ h. rw (le-leb 830 room h.0) (((check_judges p s n).accepts es).1 h.1)))
      (λ r. (unread (leb 830 room) r refl, is_unread))

-- ---- an accepted telegram is tiled

-- 50 bits of header, the packets' bits as the tables have them, and 8 of the end mark are the n bits
pub accepted_tiled : (p : Terms) (s : List ℕ) (n : ℕ) (es : List Entry) → checked p s n ≡ accepted es
    → (t : Tiled es) × (n ≡ 50 + bit_counts t.packets + 8)
accepted_tiled p s n es h =
    let a = ((check_judges p s n).accepts es).0 h in
    let t = tiled p a.telegram in
    (t, sym (length_sent s n a.size) ∙ ap length a.is ∙ t.all)

-- ---- how many values there are

-- a field has a bit at least, so there are no more values than bits
pub values_bits : (es : List Entry) → length (values es) ≤ length (bits es)
unfolding bits_in values_in
values_bits [] = omega arith
values_bits (e ∷ es) =
    let h = values_bits es in
    rw (length-append (digits e.field.width e.value) (bits es), length_digits e.field.width e.value)
    (omega (arith, width_positive e.field))

-- ---- each number by its own rule

-- a field gives none of 1, 2 and 3
module _ (p : Terms) where
  step_number : (s : State) (v : ℕ) (k : Kind) → step p s v ≡ breaks k → 3 < number_of k
  unfolding step
  step_number s v k h = by_verdict (broken p s.context (rule_due s) v) refl h
    where
      by_verdict : (o : Option Kind) → broken p s.context (rule_due s) v ≡ o
          → verdict o (onward (past s) (next s.todo v) (noted_at s v)) ≡ breaks k → 3 < number_of k
      by_verdict none e h = rw (onward_breaks (past s) (next s.todo v) (noted_at s v) k h).0 (omega arith)
      by_verdict (some j) e h =
          let q : j ≡ k = cc in
          rw (← q) (of_value_number (broken_of_value p s.context (rule_due s) v j e)).0

  lacks_number : (s : State) (bs : List ℕ) (k : Kind) → from_bits s bs ≡ lacks k → 3 < number_of k
  unfolding from_bits
  lacks_number s bs k h = by_test (leb (field s).width (length bs)) h
    where
      by_test : (b : Bool) → got_if b Ended (value_of (take (field s).width bs)) (drop (field s).width bs) ≡ lacks k → 3 < number_of k
      by_test true h = let z : ◌≡◌ {A = ℕ} 0 1 = cc in absurd (omega arith)
      by_test false h = let q : Ended ≡ k = cc in rw (← q) (omega arith)

  pub field_number : {s : State} {bs : List ℕ} {r : Refusal} → Refused p from_bits s bs r → 3 < number_of r.kind
  field_number (lacking {s = s} {xs = xs} {k = k} e) = lacks_number s xs k e
  field_number (breaking {s = s} {v = v} {k = k} e o) = step_number s v k o
  field_number (trailing e o) = omega arith
  field_number (later e o f) = field_number f

module _ (p : Terms) (s : List ℕ) (n : ℕ) where
  -- from which rule a refusal is, by its number
  from_size : {r : Refusal} → Unsound p s n r → number_of r.kind ≡ 2 → sized s n ≡ false
  from_size (missized h) e = h
  from_size (padded h g) e = absurd (omega arith)
  from_size (failing h g f) e = absurd (omega (arith, field_number p f))

  from_padding : {r : Refusal} → Unsound p s n r → number_of r.kind ≡ 3 → (sized s n ≡ true) × (clear s n ≡ false)
  from_padding (missized h) e = absurd (omega arith)
  from_padding (padded h g) e = (h, g)
  from_padding (failing h g f) e = absurd (omega (arith, field_number p f))

  from_field : {r : Refusal} → Unsound p s n r → 3 < number_of r.kind
      → (sized s n ≡ true) × (clear s n ≡ true) × Refused p from_bits begun (take n (bits_of s)) r
  from_field (missized h) e = absurd (omega arith)
  from_field (padded h g) e = absurd (omega arith)
  from_field (failing h g f) e = (h, g, f)

  -- 2, then 3, then the first broken rule of a field
  pub size_given : (checked p s n ≡ refused (early Size)) ↔ (sized s n ≡ false)
  size_given =
      let d = (check_judges p s n).refuses (early Size) in
      (λ h. from_size (d.0 h) refl, λ h. d.1 (missized h))

  pub padding_given : (checked p s n ≡ refused (early Padding)) ↔ ((sized s n ≡ true) × (clear s n ≡ false))
  padding_given =
      let d = (check_judges p s n).refuses (early Padding) in
      (λ h. from_padding (d.0 h) refl, λ h. d.1 (padded h.0 h.1))

  pub field_given : (r : Refusal) → 3 < number_of r.kind
      → (checked p s n ≡ refused r) ↔ ((sized s n ≡ true) × (clear s n ≡ true) × Refused p from_bits begun (take n (bits_of s)) r)
  field_given r l =
      let d = (check_judges p s n).refuses r in
      (λ h. from_field (d.0 h) l, λ h. d.1 (failing h.0 h.1 h.2))

  -- and 1 before all of them
  from_room : {room : ℕ} {r : Refusal} → Unread p s n room r → number_of r.kind ≡ 1 → room < 830
  from_room (roomless h) e = h
  from_room (checking h (missized g)) e = absurd (omega arith)
  from_room (checking h (padded g f)) e = absurd (omega arith)
  from_room (checking h (failing g f i)) e = absurd (omega (arith, field_number p i))

  pub room_given : (room : ℕ) → (read_into p s n room ≡ refused (early Room)) ↔ (room < 830)
  room_given room =
      let d = (read_judges p s n room).refuses (early Room) in
      (λ h. from_room (d.0 h) refl, λ h. d.1 (roomless h))
