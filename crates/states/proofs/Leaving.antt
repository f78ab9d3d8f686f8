-- "On success, output past the last value, or past byte ceil(n/8) - 1, keeps its former contents. A refusal gives a number and a place and
-- changes no output": of the check, which is lent no output, of the reader, the writer, `label` and the normaliser, each from its promise
-- alone. For any terms. Assumes nothing.
use Rattle.std.specs.Prelude.{Ok, Err}
use mathlib.Core.List.{List, [], ◌∷◌, ◌++◌}
use mathlib.Core.Path.{◌≡◌, refl, sym, ap, ◌∙◌}
use Prim.Native.Nat.{ℕ, suc, ◌≤◌}
use native.Mathlib.Omega.{arith}
use lib.ListN.{length, take, drop, length-append}
use lib.Seq.{length_front, length-take-le, take_at}
use Rattle.bits.specs.Bits.{bytes_of, bytes_for}
use Rattle.format.specs.Normal.{normal}
use Rattle.format.specs.Refusals.{in_numbers, Answer}
use Rattle.format.specs.Rules.{Terms, begun}
use Rattle.format.specs.Telegrams.{Entry, Result, Telegram, bits, bit_count, values, values_in, write}
use Rattle.format.specs.Telegrams.Result.{accepted, refused}
use Rattle.format.specs.declared.Refusal.{Refusal}
use Rattle.format.proofs.Numbers.{answer_is}
use Rattle.laws.proofs.Demand2.{length_bits, write_is, room}
use Rattle.laws.proofs.Demand3.{normal_accepted, normal_count}
use Rattle.states.specs.Reader.{checked, read_into, answered, answer_of, values_over, Read}
use Rattle.states.specs.Writer.{write_into, bytes_over, Write}
use Rattle.states.specs.Labels.{numbers, numbers_in, label_into, numbers_over, Label}
use Rattle.states.specs.Normaliser.{normal_of, normalise_into, Normalise}
use Rattle.states.proofs.Accepting.{sent, bytes_long}
use Rattle.states.proofs.Answered.{read_answer, write_answer, label_answer, normalise_answer}
use Rattle.states.proofs.Answers.{Sound, Unsound, check_judges, values_bits}
use Rattle.states.proofs.Checking.{was_accepted, was_refused}
use Rattle.states.proofs.Pointing.{normal_given}
use Rattle.states.proofs.Rooms.{had_room}

-- ---- what they share

-- what an acceptance leaves: of some telegram, which is Such, its `items`, so many of them, in front of what was there, and nothing else
pub record Stores (Such : List Entry → Type 0) (items : List Entry → List ℕ) (many least : ℕ) (before after : List ℕ) : Type 0 where
  pub entries : List Entry
  pub such : Such entries
  pub as_many : length (items entries) ≡ many
  pub room : least ≤ length before
  pub left : after ≡ items entries ++ drop many before
  pub long : length after ≡ length before

pub stored : (Such : List Entry → Type 0) (items : List Entry → List ℕ) {many least : ℕ} {before after : List ℕ} (es : List Entry) → Such es
    → length (items es) ≡ many → many ≤ least → least ≤ length before → after ≡ items es ++ drop (length (items es)) before
    → Stores Such items many least before after
stored Such items {many} {least} {before} {after} es such m few h e =
    let left : after ≡ items es ++ drop many before = e ∙ ap (λ (k : ℕ). items es ++ drop k before) m in
    record {
      entries = es;
      such = such;
      as_many = m;
      room = h;
      left = left;
      long = ap length left ∙ length_front before (items es) many (m ∙ sym (length-take-le many before (omega arith)));
    }

-- so many are there to be lent, and they are the items
module _ {Such : List Entry → Type 0} {items : List Entry → List ℕ} {many least : ℕ} {before after : List ℕ} (h : Stores Such items many least before after) where
  pub stored_lent : many ≤ length after
  stored_lent =
      let e = ap length h.left ∙ length-append (items h.entries) (drop many before) in
      let m = h.as_many in
      omega arith

  pub stored_front : (k : ℕ) → k ≡ many → take k after ≡ items h.entries
  stored_front k e = ap (take k) h.left ∙ take_at (items h.entries) (drop many before) k (h.as_many ∙ sym e)

-- what a refusal leaves is what is over the refused
kept : (count : List Entry → ℕ) (over : Result → List ℕ) (x : Result) {a : Answer} {r : Refusal} {after : List ℕ}
    → a ≡ answered count x → after ≡ over x → a ≡ Err r → after ≡ over (refused r)
kept count over x {a} {r} p c q = c ∙ ap over (was_refused count x a r p q)

-- a telegram has at most 830 values, and at most 104 bytes
pub few_values : (p : Terms) {es : List Entry} → Telegram p es → length (values es) ≤ 830
unfolding begun
few_values p {es} t = omega (arith, values_bits es, room p t)

pub few_bytes : (p : Terms) (es : List Entry) → Telegram p es → (n : ℕ) → n ≡ bit_count es → bytes_for n ≤ 104
unfolding begun
few_bytes p es t n e = let r = room p t in let l = length_bits es in omega arith

-- ---- the check: its answer is all that it gives

module _ (p : Terms) (s : List ℕ) (n : ℕ) (a : Answer) (h : in_numbers a ≡ in_numbers (answer_of (checked p s n))) where
  check_answer : a ≡ answer_of (checked p s n)
  check_answer = answer_is a (answer_of (checked p s n)) h

  pub check_refuses : {r : Refusal} → a ≡ Err r → Unsound p s n r
  check_refuses {r} e = ((check_judges p s n).refuses r).0 (was_refused (λ es. length (values es)) (checked p s n) a r check_answer e)

  pub check_accepts : {count : ℕ} → a ≡ Ok count → (es : List Entry) × Sound p s n es × (count ≡ length (values es))
  check_accepts {count} e =
      let w = was_accepted (λ es. length (values es)) (checked p s n) a count check_answer e in
      (w.entries, ((check_judges p s n).accepts w.entries).0 w.is, w.counted)

-- ---- the reader

module _ {p : Terms} {s : List ℕ} {n : ℕ} {before after : List ℕ} {a : Answer} (h : Read p s n before a after) where
  pub read_keeps : {r : Refusal} → a ≡ Err r → after ≡ before
  read_keeps {r} e = kept (λ es. length (values es)) (λ (x : Result). values_over x before) (read_into p s n (length before)) (read_answer h) h.contents e

  -- "output past the last value .. keeps its former contents"
  pub read_stores : {count : ℕ} → a ≡ Ok count → Stores (Sound p s n) values count 830 before after
  unfolding read_into
  read_stores {count} e =
      let w = was_accepted (λ es. length (values es)) (read_into p s n (length before)) a count (read_answer h) e in
      let g = had_room 830 (length before) (checked p s n) w.entries w.is in
      let j = ((check_judges p s n).accepts w.entries).0 g.1 in
      let few = few_values p j.telegram in
      stored (Sound p s n) values w.entries j (sym w.counted) (rw w.counted few) g.0
      (h.contents ∙ ap (λ (x : Result). values_over x before) w.is)

-- ---- the writer, and `label`

-- the telegram with these values, of n bits
abbrev pub Listed : Terms → List ℕ → ℕ → List Entry → Type 0
Listed p vs n es = Telegram p es × (vs ≡ values es) × (n ≡ bit_count es)

listed : (p : Terms) (vs : List ℕ) (n : ℕ) (es : List Entry) → write p vs ≡ accepted es → n ≡ bit_count es → Listed p vs n es
listed p vs n es e m = let t = write_is p vs es e in (t.0, t.1, m)

module _ {p : Terms} {vs before after : List ℕ} {a : Answer} (h : Write p vs before a after) where
  pub write_keeps : {r : Refusal} → a ≡ Err r → after ≡ before
  write_keeps {r} e = kept bit_count (λ (x : Result). bytes_over x before) (write_into p vs (length before)) (write_answer h) h.contents e

  -- "output .. past byte ceil(n/8) - 1, keeps its former contents"
  pub write_stores : {n : ℕ} → a ≡ Ok n → Stores (Listed p vs n) (λ es. bytes_of (bits es)) (bytes_for n) 104 before after
  unfolding write_into
  write_stores {n} e =
      let w = was_accepted bit_count (write_into p vs (length before)) a n (write_answer h) e in
      let g = had_room 104 (length before) (write p vs) w.entries w.is in
      let t = listed p vs n w.entries g.1 w.counted in
      stored (Listed p vs n) (λ es. bytes_of (bits es)) w.entries t (bytes_long p w.entries t.0 n w.counted)
      (few_bytes p w.entries t.0 n w.counted) g.0 (h.contents ∙ ap (λ (x : Result). bytes_over x before) w.is)

pub same_length : (es : List Entry) → length (numbers es) ≡ length (values es)
unfolding numbers_in values_in
same_length [] = refl
same_length (e ∷ es) = ap suc (same_length es)

module _ {p : Terms} {vs before after : List ℕ} {a : Answer} (h : Label p vs before a after) where
  pub label_keeps : {r : Refusal} → a ≡ Err r → after ≡ before
  label_keeps {r} e = kept bit_count (λ (x : Result). numbers_over x before) (label_into p vs (length before)) (label_answer h) h.contents e

  pub label_stores : {n : ℕ} → a ≡ Ok n → Stores (Listed p vs n) numbers (length vs) 830 before after
  unfolding label_into
  label_stores {n} e =
      let w = was_accepted bit_count (label_into p vs (length before)) a n (label_answer h) e in
      let g = had_room 830 (length before) (write p vs) w.entries w.is in
      let t = listed p vs n w.entries g.1 w.counted in
      let m : length (numbers w.entries) ≡ length vs = same_length w.entries ∙ ap length (sym t.1) in
      let few : length vs ≤ 830 = rw t.1 (few_values p t.0) in
      stored (Listed p vs n) numbers w.entries t m few g.0 (h.contents ∙ ap (λ (x : Result). numbers_over x before) w.is)

-- ---- the normaliser

-- by what it comes to, whatever form the answer has
pub normal_stored : (p : Terms) (s : List ℕ) (n : ℕ) {before after : List ℕ} (fs : List Entry) → normalise_into p s n (length before) ≡ accepted fs
    → after ≡ bytes_over (accepted fs) before
    → (bit_count fs ≡ n) × Stores (Sound p s n) (λ es. bytes_of (bits (normal es))) (bytes_for n) 104 before after
unfolding normalise_into
normal_stored p s n {before} {after} fs e c =
    let g = had_room 104 (length before) (normal_of (checked p s n)) fs e in
    let f = normal_given (checked p s n) fs g.1 in
    let es = f.0 in
    let j = ((check_judges p s n).accepts es).0 f.1 in
    let t = normal_accepted p j.telegram in
    let m : n ≡ bit_count (normal es) = sym (sent p s n es j) ∙ length_bits es ∙ sym (normal_count es) in (
      ap bit_count f.2 ∙ sym m,
      stored (Sound p s n) (λ es. bytes_of (bits (normal es))) es j (bytes_long p (normal es) t n m) (few_bytes p (normal es) t n m) g.0
          (c ∙ ap (λ (l : List Entry). bytes_over (accepted l) before) f.2),
    )

module _ {p : Terms} {s : List ℕ} {n : ℕ} {before after : List ℕ} {a : Answer} (h : Normalise p s n before a after) where
  pub normalise_keeps : {r : Refusal} → a ≡ Err r → after ≡ before
  normalise_keeps {r} e = kept bit_count (λ (x : Result). bytes_over x before) (normalise_into p s n (length before)) (normalise_answer h) h.contents e

  pub normalise_stores : {m : ℕ} → a ≡ Ok m
      → (m ≡ n) × Stores (Sound p s n) (λ es. bytes_of (bits (normal es))) (bytes_for n) 104 before after
  normalise_stores {m} e =
      let w = was_accepted bit_count (normalise_into p s n (length before)) a m (normalise_answer h) e in
      let g = normal_stored p s n w.entries w.is (h.contents ∙ ap (λ (x : Result). bytes_over x before) w.is) in
      (w.counted ∙ g.0, g.1)
