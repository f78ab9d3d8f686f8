-- The normal form that the normaliser leaves, and what normalising it leaves, by what the normaliser promises alone: the laws that a normal form is
-- accepted, has as many bits as its original and is its own normal form. For any terms. Assumes nothing.
use Rattle.std.specs.Prelude.{Ok, Err}
use mathlib.Core.List.{List}
use mathlib.Core.Path.{◌≡◌, sym, ap, ◌∙◌}
use Prim.Native.Nat.{ℕ, ◌≤◌, ◌<◌}
use native.Mathlib.Omega.{arith}
use lib.ListN.{length, take, drop, length-append}
use lib.Seq.{take_at}
use Rattle.bits.specs.Bits.{bytes_of, bytes_for}
use Rattle.format.specs.Normal.{normal}
use Rattle.format.specs.Refusals.{in_numbers, Answer}
use Rattle.format.specs.Rules.{Terms}
use Rattle.format.specs.Telegrams.{Entry, Result, Telegram, bits, bit_count}
use Rattle.format.specs.Telegrams.Result.{accepted}
use Rattle.format.specs.declared.Kind.TheVariants.{Room}
use Rattle.format.specs.declared.Refusal.{Refusal}
use Rattle.laws.proofs.Demand2.{length_bits}
use Rattle.laws.proofs.Demand3.{normal_count, normal_accepted, normal_again}
use Rattle.states.specs.Reader.{early, checked}
use Rattle.states.specs.Writer.{size_of, bytes_over}
use Rattle.states.specs.Normaliser.{normal_of, normalise_into, Normalise}
use Rattle.states.proofs.Accepting.{sent, bytes_long, checks}
use Rattle.states.proofs.Answered.{normalise_answer}
use Rattle.states.proofs.Answers.{Sound, check_judges}
use Rattle.states.proofs.Checking.{was_refused}
use Rattle.states.proofs.Leaving.{normalise_stores}
use Rattle.states.proofs.Rooms.{with_room, without_room}
use Rattle.normals.specs.Normals.{renormalise_into, Renormalised, Ready}

-- ---- the normal form of a telegram that is accepted, with room for it

module _ (p : Terms) (s : List ℕ) (n : ℕ) (x : List ℕ) (g : Ready p s n x) where
  abbrev pub form : List Entry
  form = normal g.entries

  pub original : Sound p s n g.entries
  original = ((check_judges p s n).accepts g.entries).0 g.accepts

  pub form_telegram : Telegram p form
  form_telegram = normal_accepted p original.telegram

  -- "has as many bits as its original"
  pub form_size : n ≡ bit_count form
  form_size = sym (sent p s n g.entries original) ∙ length_bits g.entries ∙ sym (normal_count g.entries)

  pub bits_long : length (bits form) ≡ n
  bits_long = length_bits form ∙ sym form_size

  pub form_bytes : length (bytes_of (bits form)) ≡ bytes_for n
  form_bytes = bytes_long p form form_telegram n form_size

  pub form_is : normalise_into p s n (length x) ≡ accepted form
  unfolding normalise_into
  form_is = with_room 104 (length x) (normal_of (checked p s n)) g.room ∙ ap normal_of g.accepts

  -- "A normal form is itself accepted"
  pub form_accepted : checked p (bytes_of (bits form)) n ≡ accepted form
  form_accepted = checks p form form_telegram n form_size

  -- what the normaliser then gives and leaves
  module _ (x_after : List ℕ) {a : Answer} (h : Normalise p s n x a x_after) where
    pub gives : a ≡ Ok n
    gives = normalise_answer h ∙ ap size_of form_is ∙ ap Ok (sym form_size)

    pub holds : x_after ≡ bytes_over (accepted form) x
    holds = h.contents ∙ ap (λ (r : Result). bytes_over r x) form_is

    -- its bytes are there to be lent
    pub lent_form : bytes_for n ≤ length x_after
    lent_form =
        let l = form_bytes in
        let k = ap length holds ∙ length-append (bytes_of (bits form)) (drop (length (bytes_of (bits form))) x) in
        omega arith

    pub front : (j : ℕ) → j ≡ bytes_for n → take j x_after ≡ bytes_of (bits form)
    front j m = ap (take j) holds ∙ take_at (bytes_of (bits form)) (drop (length (bytes_of (bits form))) x) j (form_bytes ∙ sym m)

-- ---- where the normaliser accepts, the telegram is accepted, with room

module _ (p : Terms) (s : List ℕ) (n : ℕ) (x x_after : List ℕ) {a : Answer} (h : Normalise p s n x a x_after) {k : ℕ} (e : a ≡ Ok k) where
  pub ready : Ready p s n x
  ready =
      let g = (normalise_stores h e).1 in
      record { entries = g.entries; accepts = ((check_judges p s n).accepts g.entries).1 g.such; room = g.room }

  pub given_size : k ≡ n
  given_size = (normalise_stores h e).0

-- ---- normalised, and normalised again

module _ (p : Terms) (s : List ℕ) (n : ℕ) (x y : List ℕ) where
  abbrev once_into : Result
  once_into = normalise_into p s n (length x)

  pub no_room_for_second : length y < 104 → Renormalised p s n x y (Err (early Room)) x y
  no_room_for_second h =
      let f = without_room 104 (length y) once_into h in
      record { answers = rw f; once = rw f; twice = rw f }

  as_once : 104 ≤ length y → renormalise_into p s n (length x) (length y) ≡ once_into
  as_once room = with_room 104 (length y) once_into room

  module _ (x_after : List ℕ) (room : 104 ≤ length y) {a : Answer} (h : Normalise p s n x a x_after) where
    pub form_refused : {r : Refusal} → a ≡ Err r → Renormalised p s n x y a x_after y
    form_refused {r} e =
        let f = as_once room ∙ was_refused bit_count once_into a r (normalise_answer h) e in
        record { answers = rw f (ap in_numbers e); once = rw (as_once room) h.contents; twice = rw f }

    pub renormalises : {b : Answer} {k j : ℕ} {y_after : List ℕ} → a ≡ Ok k → j ≡ bytes_for k → Normalise p (take j x_after) k y b y_after
        → Renormalised p s n x y b x_after y_after
    renormalises {b} {k} {j} {y_after} e m i =
        let g = ready p s n x x_after h e in
        let z : k ≡ n = given_size p s n x x_after h e in
        let bytes = bytes_of (bits (form p s n x g)) in
        let q : take j x_after ≡ bytes = front p s n x g x_after h j (m ∙ ap bytes_for z) in
        let v : Normalise p bytes n y b y_after = rw (z, q) at i in
        let r : Ready p bytes n y = record { entries = form p s n x g; accepts = form_accepted p s n x g; room = room } in
        let f = as_once room ∙ form_is p s n x g in
        record {
          answers = rw f (ap in_numbers (gives p bytes n y r y_after v));
          once = rw (as_once room) h.contents;
          twice = rw f (holds p bytes n y r y_after v ∙ ap (λ (es : List Entry). bytes_over (accepted es) y) (normal_again p (original p s n x g).telegram));
        }
