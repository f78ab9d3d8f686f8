-- Reading and then writing, and writing and then reading, by what each promises alone: the laws that reading and writing are inverse, and
-- that bytes with clear unused bits are the bytes of their bits. For any terms. Assumes nothing.
use Rattle.std.specs.Prelude.{Ok, Err}
use mathlib.Core.List.{List}
use mathlib.Core.Path.{◌≡◌, refl, sym, ap, ◌∙◌}
use Prim.Native.Nat.{ℕ, ◌≤◌, ◌<◌}
use lib.ListN.{length, take}
use Rattle.bits.specs.Bits.{bytes_of, bytes_for, Below}
use Rattle.format.specs.Refusals.{in_numbers, Answer}
use Rattle.format.specs.Rules.{Terms}
use Rattle.format.specs.Telegrams.{Entry, Result, Telegram, bits, values, bit_count, write}
use Rattle.format.specs.Telegrams.Result.{accepted, refused}
use Rattle.format.specs.declared.Kind.TheVariants.{Room}
use Rattle.format.specs.declared.Refusal.{Refusal}
use Rattle.laws.proofs.Demand2.{length_bits, writes}
use Rattle.states.specs.Reader.{early, checked, read_into, Read}
use Rattle.states.specs.Writer.{write_into, Write}
use Rattle.states.proofs.Answered.{read_answer, write_answer}
use Rattle.states.proofs.Answers.{Sound, check_judges, answer_refused}
use Rattle.states.proofs.Accepting.{sent, same_bytes, checks}
use Rattle.states.proofs.Checking.{was_refused}
use Rattle.states.proofs.Leaving.{read_stores, write_stores, stored_lent, stored_front}
use Rattle.states.proofs.Rooms.{with_room, without_room}
use Rattle.again.specs.Again.{rewrite_into, Rewritten, reread_into, Reread}

-- ---- the second of the two, given a telegram and room

module _ (p : Terms) {es : List Entry} (t : Telegram p es) where
  then_written : (room : ℕ) → 104 ≤ room → write_into p (values es) room ≡ accepted es
  unfolding write_into
  then_written room h = with_room 104 room (write p (values es)) h ∙ writes p t

  then_read : (n room : ℕ) → n ≡ bit_count es → 830 ≤ room → read_into p (bytes_of (bits es)) n room ≡ accepted es
  unfolding read_into
  then_read n room e h = with_room 830 room (checked p (bytes_of (bits es)) n) h ∙ checks p es t n e

-- ---- read, and written again

module _ (p : Terms) where
  reads : (s : List ℕ) (n : ℕ) (run : List ℕ) (es : List Entry) → Sound p s n es → 830 ≤ length run → read_into p s n (length run) ≡ accepted es
  unfolding read_into
  reads s n run es j h = with_room 830 (length run) (checked p s n) h ∙ ((check_judges p s n).accepts es).1 j

module _ (p : Terms) (s : List ℕ) (n : ℕ) (run out : List ℕ) where
  abbrev after_read : Result
  after_read = read_into p s n (length run)

  pub no_room_to_write : length out < 104 → Rewritten p s n run out (Err (early Room)) run out
  no_room_to_write h =
      let f = without_room 104 (length out) after_read h in
      record { answers = rw f; values = rw f; telegram = rw f }

  as_read : 104 ≤ length out → rewrite_into p s n (length run) (length out) ≡ after_read
  as_read room = with_room 104 (length out) after_read room

  module _ (run_after : List ℕ) (room : 104 ≤ length out) where
    pub read_refused : {a : Answer} {r : Refusal} → Read p s n run a run_after → a ≡ Err r → Rewritten p s n run out a run_after out
    read_refused {a} {r} h e =
        let f : after_read ≡ refused r = (answer_refused after_read r).0 (sym e ∙ read_answer h) in
        let g = as_read room ∙ f in
        record { answers = rw g (ap in_numbers e); values = rw (as_read room) h.contents; telegram = rw g }

    module _ {a : Answer} {count : ℕ} (h : Read p s n run a run_after) (e : a ≡ Ok count) where
      -- the values that were read are there to be lent
      pub lent : count ≤ length run_after
      lent = stored_lent (read_stores h e)

      pub rewrites : {out_after : List ℕ} {b : Answer} → Below 256 s → Write p (take count run_after) out b out_after
          → Rewritten p s n run out b run_after out_after
      rewrites {out_after} {b} bytes w =
          let g = read_stores h e in
          let es = g.entries in
          let j = g.such in
          let k = as_read room ∙ reads p s n run es j g.room in
          let size : bit_count es ≡ n = sym (length_bits es) ∙ sent p s n es j in
          let v : Write p (values es) out b out_after = rw (stored_front g count refl) at w in
          let i = then_written p j.telegram (length out) room in
          record {
            answers = rw k (v.answers ∙ rw (i, size));
            values = rw (as_read room) h.contents;
            telegram = rw k (v.contents ∙ rw (i, same_bytes p s n es j bytes));
          }

-- ---- written, and read again

module _ (p : Terms) (vs out run : List ℕ) where
  abbrev after_write : Result
  after_write = write_into p vs (length out)

  pub no_room_to_read : length run < 830 → Reread p vs out run (Err (early Room)) out run
  no_room_to_read h =
      let f = without_room 830 (length run) after_write h in
      record { answers = rw f; telegram = rw f; values = rw f }

  as_written : 830 ≤ length run → reread_into p vs (length out) (length run) ≡ after_write
  as_written room = with_room 830 (length run) after_write room

  module _ (out_after : List ℕ) (room : 830 ≤ length run) where
    pub write_refused : {a : Answer} {r : Refusal} → Write p vs out a out_after → a ≡ Err r → Reread p vs out run a out_after run
    write_refused {a} {r} h e =
        let f : after_write ≡ refused r = was_refused bit_count after_write a r (write_answer h) e in
        let g = as_written room ∙ f in
        record { answers = rw g (ap in_numbers e); telegram = rw (as_written room) h.contents; values = rw g }

    module _ {a : Answer} {n : ℕ} (h : Write p vs out a out_after) (e : a ≡ Ok n) where
      -- the bytes that were written are there to be lent
      pub lent_bytes : bytes_for n ≤ length out_after
      lent_bytes = stored_lent (write_stores h e)

      pub rereads : {k : ℕ} {run_after : List ℕ} {b : Answer} → k ≡ bytes_for n → Read p (take k out_after) n run b run_after
          → Reread p vs out run b out_after run_after
      rereads {k} {run_after} {b} m r =
          let g = write_stores h e in
          let es = g.entries in
          let t = g.such in
          let i = then_read p t.0 n (length run) t.2 room in
          let v : Read p (bytes_of (bits es)) n run b run_after = rw (stored_front g k m) at r in
          let f = as_written room ∙ ap (λ (us : List ℕ). write_into p us (length out)) t.1 ∙ then_written p t.0 (length out) g.room in
          record {
            answers = rw (f, t.1) (v.answers ∙ rw i);
            telegram = rw (as_written room) h.contents;
            values = rw (f, t.1) (v.contents ∙ rw i);
          }
