-- Demand 2: reading and writing are inverse, for any terms. Assumes nothing.
use mathlib.Core.List.{List, [], ◌∷◌}
use mathlib.Core.Path.{◌≡◌, refl, sym}
use Prim.Native.Nat.{ℕ, ◌+◌, ◌≤◌}
use native.Mathlib.Omega.{arith}
use lib.ListN.{length, length-append}
use Rattle.bits.specs.Bits.{digits, Below}
use Rattle.bits.proofs.Digits.{length_digits, below_digits}
use Rattle.bits.proofs.Bytes.{below_append}
use Rattle.format.specs.Rules.{State, Terms, begun, field}
use Rattle.format.specs.Telegrams.{Entry, read, write, from_bits, from_values, bits_in, values_in, bits, values, bit_count, Run, Telegram}
use Rattle.format.specs.Telegrams.Result.{accepted}
use Rattle.format.specs.Telegrams.Run.{last, more}
use Rattle.laws.proofs.Sources.{Sent, Listed, from_bits_lem, from_values_lem, bits_in_entry}
use Rattle.laws.proofs.Round.{accepted_is, is_accepted}

-- ---- the bits of entries

pub length_bits : (es : List Entry) → length (bits es) ≡ bit_count es
unfolding bits_in
length_bits [] = refl
length_bits (e ∷ es) =
    rw (length-append (digits e.field.width e.value) (bits es), length_digits e.field.width e.value, length_bits es)

pub below_bits : (es : List Entry) → Below 2 (bits es)
unfolding bits_in
below_bits [] = tt
below_bits (e ∷ es) = below_append 2 (bits_in e) (bits es) (below_digits e.field.width e.value) (below_bits es)

module _ (p : Terms) where
  -- a run's bits end by bit 830
  pub room : {s : State} {es : List Entry} → Run p s es → s.at + length (bits es) ≤ 830
  room (last {s = s} {v = v} f e) =
      rw (bits_in_entry s v, length-append (digits (field s).width v) [], length_digits (field s).width v) (omega arith)
  room (more {s = s} {v = v} {es = es} f e r) =
      let h = room r in
      rw (bits_in_entry s v, length-append (digits (field s).width v) (bits es), length_digits (field s).width v) (omega arith)

  -- ---- a telegram is read from its bits and written from its values, and nothing else is

  pub reads : {es : List Entry} → Telegram p es → read p (bits es) ≡ accepted es
  unfolding read
  reads {es} r = is_accepted p from_bits bits_in Sent from_bits_lem r (length (bits es)) (omega arith)

  pub writes : {es : List Entry} → Telegram p es → write p (values es) ≡ accepted es
  unfolding write
  writes {es} r = is_accepted p from_values values_in Listed from_values_lem r (length (values es)) (omega arith)

  pub read_is : (bs : List ℕ) (es : List Entry) → Below 2 bs → length bs ≤ 830 → read p bs ≡ accepted es
      → Telegram p es × (bs ≡ bits es)
  unfolding read begun
  read_is bs es b n h = accepted_is p from_bits bits_in Sent from_bits_lem (length bs) begun bs es (record { bits = b; room = omega arith }) h

  pub write_is : (vs : List ℕ) (es : List Entry) → write p vs ≡ accepted es → Telegram p es × (vs ≡ values es)
  unfolding write
  write_is vs es h = accepted_is p from_values values_in Listed from_values_lem (length vs) begun vs es tt h

  -- ---- "What is read and written again is the same telegram; what is written and read again is the same list of values"

  pub read_written : (bs : List ℕ) (es : List Entry) → Below 2 bs → length bs ≤ 830 → read p bs ≡ accepted es
      → (write p (values es) ≡ accepted es) × (bits es ≡ bs)
  read_written bs es b n h = let t = read_is bs es b n h in (writes t.0, sym t.1)

  pub written_read : (vs : List ℕ) (es : List Entry) → write p vs ≡ accepted es → (read p (bits es) ≡ accepted es) × (values es ≡ vs)
  written_read vs es h = let t = write_is vs es h in (reads t.0, sym t.1)
