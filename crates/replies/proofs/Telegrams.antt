-- What the reader, the writer and the normaliser leave, as text: where they are lent enough, that of the definitions. Assumes nothing.
use Rattle.std.specs.Prelude.{Ok, Err}
use mathlib.Core.Path.{◌≡◌, refl, sym, ap, ap₂, ◌∙◌}
use mathlib.Core.List.{List, ◌++◌}
use Prim.Native.Nat.{ℕ, ◌≤◌}
use native.Mathlib.Omega.{arith}
use lib.ListN.{length, take, drop, length-append}
use lib.Seq.{take-append-le, take-append_seam}
use Rattle.answer_text.specs.Texts.{listed, sent, sent_text}
use Rattle.bits.specs.Bits.{bits_of, bytes_of}
use Rattle.bits.proofs.Bytes.{length_bits_of, bits_of_append, length_bytes_of, take_bits_of_bytes_of}
use Rattle.format.specs.Rules.{paper}
use Rattle.format.specs.Telegrams.{Result, bits, values, bit_count, write}
use Rattle.format.specs.Telegrams.Result.{accepted, refused}
use Rattle.format.specs.declared.Refusal.{Refusal}
use Rattle.laws.proofs.Demand2.{length_bits, below_bits}
use Rattle.queue_text.specs.Texts.{refusal_text}
use Rattle.states.specs.Normaliser.{normal_of, normalise_into, Normalise}
use Rattle.states.specs.Reader.{checked, read_into, answer_of, values_over, Read}
use Rattle.states.specs.Writer.{write_into, size_of, bytes_over, Write}
use Rattle.states.proofs.Answered.{read_answer, write_answer, normalise_answer}
use Rattle.states.proofs.Rooms.{with_room}
use Rattle.replies.specs.Replies.{values_or, bits_or, read_text, normal_text, write_text}
use Rattle.format.specs.Refusals.{Answer}

-- ---- bits

-- the first bits of the bytes of a bit string are the bit string
front_bits : (bs rest : List ℕ) (n : ℕ) → length bs ≡ n → take (length bs) (bits_of (bytes_of bs)) ≡ bs → take n (bits_of (bytes_of bs ++ rest)) ≡ bs
front_bits bs rest n e f =
    let enough : length bs ≤ length (bits_of (bytes_of bs)) = rw (length_bits_of (bytes_of bs), length_bytes_of bs) (omega arith) in
    ap (λ (k : ℕ). take k (bits_of (bytes_of bs ++ rest))) (sym e)
    ∙ ap (take (length bs)) (bits_of_append (bytes_of bs) rest)
    ∙ take-append-le (length bs) (bits_of (bytes_of bs)) (bits_of rest) enough ∙ f

sent_as : (x : Result) (before : List ℕ) → sent_text (bits_of (bytes_over x before)) (size_of x) ≡ bits_or x
unfolding sent_text
sent_as (accepted es) before =
    ap sent
    (front_bits (bits es) (drop (length (bytes_of (bits es))) before) (bit_count es) (length_bits es)
    (take_bits_of_bytes_of (bits es) (below_bits es)))
sent_as (refused r) before = refl

write_into_lem : (vs : List ℕ) (room : ℕ) → 104 ≤ room → write_into paper vs room ≡ write paper vs
unfolding write_into
write_into_lem vs room h = with_room 104 room (write paper vs) h

normalise_into_lem : (s : List ℕ) (n room : ℕ) → 104 ≤ room → normalise_into paper s n room ≡ normal_of (checked paper s n)
unfolding normalise_into
normalise_into_lem s n room h = with_room 104 room (normal_of (checked paper s n)) h

module _ {before after : List ℕ} {a : Answer} (l : length before ≡ 104) where
  pub written_as : (vs : List ℕ) → Write paper vs before a after → sent_text (bits_of after) a ≡ write_text vs
  unfolding write_text
  written_as vs h =
      ap₂ (λ (out : List ℕ) (x : Answer). sent_text (bits_of out) x) h.contents (write_answer h) ∙ sent_as (write_into paper vs (length before)) before
      ∙ ap bits_or (write_into_lem vs (length before) (omega arith))

  pub normal_as : (s : List ℕ) (n : ℕ) → Normalise paper s n before a after → sent_text (bits_of after) a ≡ normal_text s n
  unfolding normal_text
  normal_as s n h =
      ap₂ (λ (out : List ℕ) (x : Answer). sent_text (bits_of out) x) h.contents (normalise_answer h)
      ∙ sent_as (normalise_into paper s n (length before)) before ∙ ap bits_or (normalise_into_lem s n (length before) (omega arith))

-- ---- values

within : (x : Result) (before after : List ℕ) (count : ℕ) → after ≡ values_over x before → answer_of x ≡ Ok count → count ≤ length after
within (accepted es) before after count e g =
    let same : length (values es) ≡ count = cc in
    omega (arith, ap length e ∙ length-append (values es) (drop (length (values es)) before))
within (refused r) before after count e g = let z : ◌≡◌ {A = ℕ} 0 1 = cc in absurd (omega arith)

listed_as : (x : Result) (before after : List ℕ) (count : ℕ) → after ≡ values_over x before → answer_of x ≡ Ok count
    → listed (take count after) ≡ values_or x
listed_as (accepted es) before after count e g =
    let same : count ≡ length (values es) = cc in
    ap listed
    (ap (take count) e ∙ ap (λ (k : ℕ). take k (values es ++ drop (length (values es)) before)) same
    ∙ take-append_seam (values es) (drop (length (values es)) before))
listed_as (refused r) before after count e g = let z : ◌≡◌ {A = ℕ} 0 1 = cc in absurd (omega arith)

refused_as : (x : Result) (r : Refusal) → answer_of x ≡ Err r → refusal_text r ≡ values_or x
refused_as (accepted es) r g = let z : ◌≡◌ {A = ℕ} 0 1 = cc in absurd (omega arith)
refused_as (refused s) r g = let same : r ≡ s = cc in ap refusal_text same

module _ (s : List ℕ) (n : ℕ) (before after : List ℕ) (a : Answer) (l : length before ≡ 830) (h : Read paper s n before a after) where
  into : read_into paper s n (length before) ≡ checked paper s n
  unfolding read_into
  into = with_room 830 (length before) (checked paper s n) (omega arith)

  pub read_within : (count : ℕ) → a ≡ Ok count → count ≤ length after
  read_within count e = within (read_into paper s n (length before)) before after count h.contents (sym (read_answer h) ∙ e)

  pub read_listed : (count : ℕ) → a ≡ Ok count → listed (take count after) ≡ read_text s n
  unfolding read_text
  read_listed count e =
      listed_as (read_into paper s n (length before)) before after count h.contents (sym (read_answer h) ∙ e) ∙ ap values_or into

  pub read_refused : (r : Refusal) → a ≡ Err r → refusal_text r ≡ read_text s n
  unfolding read_text
  read_refused r e = refused_as (read_into paper s n (length before)) r (sym (read_answer h) ∙ e) ∙ ap values_or into
