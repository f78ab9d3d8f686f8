-- The check and the reader by the tests that they make: 1, then 2, then 3, then field by field. Assumes nothing.
use Rattle.std.specs.Prelude.{Ok, Err}
use mathlib.Core.Path.{◌≡◌, refl, sym, ap, ◌∙◌}
use mathlib.Core.Bool.{Bool, true, false, cond, ◌&&◌}
use mathlib.Core.List.{List, [], ◌++◌, append-nil}
use Prim.Native.Nat.{ℕ, suc, ◌+◌, ◌-◌, ◌*◌, ◌%◌, ◌^◌, ◌≤◌, ◌<◌}
use native.Mathlib.Omega.{arith}
use borrow.Author.Tests.{leb-true, eqb-true}
use lib.Dec.{eqb, leb}
use lib.ListN.{length, take, drop, get_or, drop_of_length-le}
use lib.Seq.{length-take-le, split_at, drop-drop, drop_at}
use Rattle.bits.specs.Bits.{digits, value_of, bits_of, bytes_for}
use Rattle.bits.proofs.Bytes.{length_bits_of, below_bits_of, below_take, bits_of_append, bits_of_cons}
use Rattle.bits.proofs.Digits.{drop_digits, value_of_digits_mod}
use Rattle.format.specs.Refusals.{in_numbers, Answer}
use Rattle.format.specs.Rules.{Terms, paper}
use Rattle.format.specs.Telegrams.{values, Entry, Result, Telegram, bits, read}
use Rattle.format.specs.Telegrams.Result.{accepted, refused}
use Rattle.format.specs.declared.Kind.TheVariants.{Room, Size, Padding}
use Rattle.format.specs.declared.Refusal.{Refusal}
use Rattle.laws.proofs.Demand2.{read_is}
use Rattle.states.specs.Reader.{answered, sized, clear, early, at_once, checked, read_into, answer_of, Read}
use Rattle.states.specs.Filling.{Filling, Filled}
use Rattle.states.proofs.Rooms.{with_room, without_room}

-- ---- 2 and 3

pub record Sized (s : List ℕ) (n : ℕ) : Type 0 where
  pub least : 58 ≤ n
  pub most : n ≤ 830
  pub bytes : length s ≡ bytes_for n

three : (a b c : Bool) → (a && b && c) ≡ true → (a ≡ true) × (b ≡ true) × (c ≡ true)
three true true true h = (refl, refl, refl)
three true true false h = let z : ◌≡◌ {A = ℕ} 0 1 = cc in absurd (omega arith)
three true false c h = let z : ◌≡◌ {A = ℕ} 0 1 = cc in absurd (omega arith)
three false b c h = let z : ◌≡◌ {A = ℕ} 0 1 = cc in absurd (omega arith)

no_bytes : bits_of [] ≡ []
unfolding bits_of
no_bytes = refl

-- the last u bits of bytes are the low bits of the last byte
pub last_bits : (s : List ℕ) (n u : ℕ) → 0 < length s → n + u ≡ 8 * length s → u ≤ 8 → value_of (drop n (bits_of s)) ≡ get_or s (length s - 1) 0 % 2 ^ u
last_bits s n u some e h =
    let q = length s - 1 in
    let x = get_or s q 0 in
    let before = bits_of (take q s) in
    let split : bits_of s ≡ before ++ (digits 8 x ++ bits_of (drop (suc q) s)) =
    ap bits_of (split_at s q 0 (omega arith)) ∙ bits_of_append (take q s) _ ∙ ap (λ (l : List ℕ). before ++ l) (bits_of_cons _ _) in
    let size : length before ≡ 8 * q = length_bits_of (take q s) ∙ ap (λ (k : ℕ). 8 * k) (length-take-le q s (omega arith)) in
    let place : n ≡ 8 * q + (8 - u) = omega arith in
    let byte : 8 ≡ 8 - u + u = omega arith in
    let none : bits_of (drop (suc q) s) ≡ [] = ap bits_of (drop_of_length-le s {i = suc q} (omega arith)) ∙ no_bytes in
    ap value_of
    (ap (λ (k : ℕ). drop k (bits_of s)) place
    ∙ ap (drop (8 * q + (8 - u))) split
    ∙ sym (drop-drop (8 - u) (8 * q) (before ++ (digits 8 x ++ bits_of (drop (suc q) s))))
    ∙ ap (drop (8 - u)) (drop_at before (digits 8 x ++ bits_of (drop (suc q) s)) (8 * q) size)
    ∙ ap (λ (l : List ℕ). drop (8 - u) (digits 8 x ++ l)) none
    ∙ ap (drop (8 - u)) (append-nil (digits 8 x))
    ∙ ap (λ (k : ℕ). drop (8 - u) (digits k x)) byte
    ∙ drop_digits (8 - u) u x)
    ∙ value_of_digits_mod u x

module _ (s : List ℕ) (n : ℕ) where
  pub sized_is : sized s n ≡ true → Sized s n
  sized_is h =
      let t = three (leb 58 n) (leb n 830) (eqb (length s) (bytes_for n)) h in
      record { least = leb-true 58 n t.0; most = leb-true n 830 t.1; bytes = eqb-true (length s) (bytes_for n) t.2 }

  module _ (p : Terms) where
    pub checked_size : sized s n ≡ false → checked p s n ≡ at_once Size
    unfolding checked
    checked_size h = rw h

    pub checked_padding : sized s n ≡ true → clear s n ≡ false → checked p s n ≡ at_once Padding
    unfolding checked
    checked_padding h k = rw (h, k)

    pub checked_fields : sized s n ≡ true → clear s n ≡ true → checked p s n ≡ read p (take n (bits_of s))
    unfolding checked
    checked_fields h k = rw (h, k)

  -- ---- what an accepted check says

  by_tests : (es : List Entry) (a b : Bool) → sized s n ≡ a → clear s n ≡ b
      → cond a (cond b (read paper (take n (bits_of s))) (at_once Padding)) (at_once Size) ≡ accepted es
      → Sized s n × (clear s n ≡ true) × (read paper (take n (bits_of s)) ≡ accepted es)
  by_tests es true true h k e = (sized_is h, k, e)
  by_tests es true false h k e = let z : ◌≡◌ {A = ℕ} 0 1 = cc in absurd (omega arith)
  by_tests es false b h k e = let z : ◌≡◌ {A = ℕ} 0 1 = cc in absurd (omega arith)

  accepted_is : (es : List Entry) → checked paper s n ≡ accepted es
      → Sized s n × (clear s n ≡ true) × (read paper (take n (bits_of s)) ≡ accepted es)
  unfolding checked
  accepted_is es e = by_tests es (sized s n) (clear s n) refl refl e

  -- the bits are a telegram with these entries
  pub record Holds (es : List Entry) : Type 0 where
    pub telegram : Telegram paper es
    pub same : take n (bits_of s) ≡ bits es
    pub within : n ≤ 8 * length s
    pub bytes : length s ≡ bytes_for n
    pub clear : clear s n ≡ true

  pub holds : (es : List Entry) → checked paper s n ≡ accepted es → Holds es
  holds es e =
      let a = accepted_is es e in
      let z = a.0 in
      let wide : n ≤ 8 * length s = omega arith in
      let long : length (take n (bits_of s)) ≡ n = length-take-le n (bits_of s) (rw (length_bits_of s) wide) in
      let t = read_is paper (take n (bits_of s)) es (below_take 2 n (bits_of s) (below_bits_of s)) (omega arith) a.2 in
      record { telegram = t.0; same = t.1; within = wide; bytes = z.bytes; clear = a.1 }

-- ---- an answer, and what it answers for

pub record AcceptedAs (f : List Entry → ℕ) (r : Result) (k : ℕ) : Type 0 where
  pub entries : List Entry
  pub is : r ≡ accepted entries
  pub counted : k ≡ f entries

pub was_accepted : (f : List Entry → ℕ) (r : Result) (a : Answer) (k : ℕ) → a ≡ answered f r → a ≡ Ok k → AcceptedAs f r k
was_accepted f (accepted es) a k p q = let e : k ≡ f es = cc in record { entries = es; is = refl; counted = e }
was_accepted f (refused r) a k p q = let z : ◌≡◌ {A = ℕ} 0 1 = cc in absurd (omega arith)

pub was_refused : (f : List Entry → ℕ) (r : Result) (a : Answer) (x : Refusal) → a ≡ answered f r → a ≡ Err x → r ≡ refused x
was_refused f (accepted es) a x p q = let z : ◌≡◌ {A = ℕ} 0 1 = cc in absurd (omega arith)
was_refused f (refused r) a x p q = let e : r ≡ x = cc in ap refused e

abbrev counted : List Entry → ℕ
counted es = length (values es)

pub fillable : (s : List ℕ) (n : ℕ) (out : List ℕ) (a : Answer) (k : ℕ) → 830 ≤ length out → a ≡ answer_of (checked paper s n) → a ≡ Ok k
    → Filling s n out
fillable s n out a k room p q =
    let w = was_accepted counted (checked paper s n) a k p q in
    let h = holds s n w.entries w.is in
    record { entries = w.entries; telegram = h.telegram; same = h.same; within = h.within; room = room }

module _ (s : List ℕ) (n : ℕ) (before : List ℕ) where
  pub reads_roomless : length before < 830 → Read paper s n before (Err (early Room)) before
  unfolding read_into
  reads_roomless h = let e = without_room 830 (length before) (checked paper s n) h in record { answers = rw e; contents = rw e }

  module _ (h : 830 ≤ length before) where
    into : read_into paper s n (length before) ≡ checked paper s n
    unfolding read_into
    into = with_room 830 (length before) (checked paper s n) h

    pub reads_refused : (a : Answer) (x : Refusal) → a ≡ answer_of (checked paper s n) → a ≡ Err x → Read paper s n before a before
    reads_refused a x p q = record { answers = rw into (ap in_numbers p); contents = rw (into, was_refused counted (checked paper s n) a x p q) }

    pub reads_accepted : (a : Answer) (k : ℕ) (after : List ℕ) → a ≡ answer_of (checked paper s n) → a ≡ Ok k
        → Filled s n before after → Read paper s n before a after
    reads_accepted a k after p q f =
        let w = was_accepted counted (checked paper s n) a k p q in
        let g = holds s n w.entries w.is in
        record { answers = rw into (ap in_numbers p); contents = rw (into, w.is) (f w.entries g.telegram g.same) }
