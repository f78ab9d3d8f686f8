-- The writer by the tests that it makes: 1, then field by field. Assumes nothing.
use Rattle.std.specs.Prelude.{Ok, Err}
use mathlib.Core.Path.{◌≡◌, ap}
use mathlib.Core.List.{List}
use Prim.Native.Nat.{ℕ, ◌≤◌, ◌<◌}
use lib.ListN.{length}
use Rattle.format.specs.Refusals.{in_numbers, Answer}
use Rattle.format.specs.Rules.{paper}
use Rattle.format.specs.Telegrams.{Entry, Telegram, bit_count, values, write}
use Rattle.format.specs.Telegrams.Result.{accepted}
use Rattle.format.specs.declared.Kind.TheVariants.{Room}
use Rattle.format.specs.declared.Refusal.{Refusal}
use Rattle.laws.proofs.Demand2.{write_is}
use Rattle.states.specs.Reader.{early}
use Rattle.states.specs.Writer.{write_into, size_of, Write, Storing, Stored}
use Rattle.states.proofs.Checking.{was_accepted, was_refused}
use Rattle.states.proofs.Rooms.{with_room, without_room}

-- a list that the writer accepts is the values of a telegram of n bits
pub record Written (vs : List ℕ) (n : ℕ) : Type 0 where
  pub entries : List Entry
  pub is : write paper vs ≡ accepted entries
  pub telegram : Telegram paper entries
  pub same : vs ≡ values entries
  pub size : n ≡ bit_count entries

pub written : (vs : List ℕ) {a : Answer} {n : ℕ} → a ≡ size_of (write paper vs) → a ≡ Ok n → Written vs n
written vs {a} {n} p q =
    let w = was_accepted bit_count (write paper vs) a n p q in
    let t = write_is paper vs w.entries w.is in
    record { entries = w.entries; is = w.is; telegram = t.0; same = t.1; size = w.counted }

module _ (vs before : List ℕ) where
  pub writes_roomless : length before < 104 → Write paper vs before (Err (early Room)) before
  unfolding write_into
  writes_roomless h = let e = without_room 104 (length before) (write paper vs) h in record { answers = rw e; contents = rw e }

  module _ (h : 104 ≤ length before) where
    into : write_into paper vs (length before) ≡ write paper vs
    unfolding write_into
    into = with_room 104 (length before) (write paper vs) h

    pub writes_refused : {a : Answer} {x : Refusal} → a ≡ size_of (write paper vs) → a ≡ Err x → Write paper vs before a before
    writes_refused {a} {x} p q = record { answers = rw into (ap in_numbers p); contents = rw (into, was_refused bit_count (write paper vs) a x p q) }

    module _ {a : Answer} {n : ℕ} (p : a ≡ size_of (write paper vs)) (q : a ≡ Ok n) where
      -- what is written is a telegram with these values
      pub storable : Storing vs n before
      storable =
          let w = written vs p q in
          record { entries = w.entries; telegram = w.telegram; same = w.same; size = w.size; room = h }

      pub writes_accepted : (after : List ℕ) → Stored vs before after → Write paper vs before a after
      writes_accepted after f =
          let w = written vs p q in
          record { answers = rw into (ap in_numbers p); contents = rw (into, w.is) (f w.entries w.telegram w.same) }
