-- What export answers and leaves, by the tests that it makes. Assumes nothing.
use Rattle.std.specs.Prelude.{Ok, Err}
use mathlib.Core.Path.{◌≡◌, sym, ap, ◌∙◌, subst}
use mathlib.Core.List.{List, [], ◌∷◌, ◌++◌}
use Prim.Native.Nat.{ℕ, ◌≤◌, ◌<◌}
use native.Mathlib.Omega.{arith}
use lib.ListN.{length, take, drop}
use lib.Seq.{take_at}
use Rattle.bits.specs.Bits.{Below}
use Rattle.format.specs.Rules.{paper}
use Rattle.format.specs.Telegrams.{Entry, Result, Telegram, all, bit_count, values, write}
use Rattle.format.specs.Telegrams.Result.{accepted}
use Rattle.format.specs.declared.Kind.TheVariants.{Room}
use Rattle.format.specs.declared.Refusal.{Refusal}
use Rattle.laws.proofs.Demand2.{writes}
use Rattle.laws.proofs.Listed.{AllKnown, telegram_listed, known_number}
use Rattle.states.specs.Labels.{numbers, numbers_in, Label}
use Rattle.states.specs.Reader.{early, checked, read_into, answer_of, values_over, Read}
use Rattle.states.proofs.Answered.{read_answer}
use Rattle.states.proofs.Checking.{AcceptedAs, was_accepted, was_refused, holds}
use Rattle.states.proofs.Leaving.{few_values, same_length}
use Rattle.states.proofs.Rooms.{with_room, without_room}
use Rattle.pieces.specs.Pieces.{Appended, Grown}
use Rattle.pieces.proofs.Starts.{grown_none, grows}
use Rattle.sheet.specs.Rows.{heading, row_text, sheet_text}
use Rattle.sheet.specs.Sheets.{in_numbers, exported, length_of, sheet_over, Export}
use Rattle.sheet.specs.Steps.{entries_of, Columns, RowsPut, Listing, Wrote}
use Rattle.sheet.proofs.Columns.{entries_of_lem}
use Rattle.sheet.proofs.Gathering.{length_heading}
use Rattle.states.specs.Writer.{size_of}
use Rattle.sheet.proofs.Judgement.{label_answers, named_as}
use Rattle.format.specs.Refusals.{Answer}
use Rattle.sheet.specs.declared.SheetError.TheVariants.{Refused}
use Rattle.sheet.specs.Replies.{Reply}

-- ---- a telegram's list

pub below_numbers : (es : List Entry) → AllKnown es → Below 72 (numbers es)
unfolding numbers_in
below_numbers [] a = tt
below_numbers (e ∷ es) a = (known_number e.field a.0, below_numbers es a.1)

-- two telegrams with the same values are one
one_telegram : {es fs : List Entry} → Telegram paper es → Telegram paper fs → values es ≡ values fs → es ≡ fs
one_telegram {es} {fs} t u e =
    let same : accepted es ≡ accepted fs = sym (writes paper t) ∙ ap (write paper) e ∙ writes paper u in
    cc

-- ---- the sheet of a list

module _ {vs text : List ℕ} (l : Listing vs text) where
  pub few_listed : length vs ≤ 830
  few_listed = rw l.same (few_values paper l.telegram)

  module _ {due after : List ℕ} {a : Answer} (m : Label paper vs due a after) (h : 830 ≤ length due) where
    pub labels_listed : a ≡ Ok (bit_count l.entries)
    labels_listed = label_answers m h ∙ ap size_of (ap (write paper) l.same ∙ writes paper l.telegram)

    named : take (length vs) after ≡ numbers l.entries
    named = named_as m h l.entries (ap (write paper) l.same ∙ writes paper l.telegram)

    pub columns : Columns (take (length vs) after) vs
    columns =
        record {
          same = ap length named ∙ same_length l.entries ∙ ap length (sym l.same);
          known = subst (Below 72) (sym named) (below_numbers l.entries (telegram_listed paper l.telegram));
        }

    rows_are : entries_of (take (length vs) after) vs ≡ l.entries
    rows_are =
        ap (λ (x : List ℕ). entries_of x vs) named ∙ ap (entries_of (numbers l.entries)) l.same
        ∙ entries_of_lem l.entries (telegram_listed paper l.telegram)

    grown : {head end : ℕ} {out final : List ℕ} → Appended text 0 heading head out → RowsPut (take (length vs) after) vs out head end final
        → Grown text (sheet_text l.entries) end final
    unfolding sheet_text
    grown {head} {end} {out} {final} p r =
        let few = few_listed in
        let first : Grown text heading head out = grows (grown_none text) p (rw length_heading (omega (arith, l.room))) in
        subst (λ (es : List Entry). Grown text (heading ++ all row_text es) end final) rows_are
        (r text heading first (rw length_heading (omega (arith, few, l.room))))

    pub wrote : {head end : ℕ} {out final : List ℕ} → Appended text 0 heading head out → RowsPut (take (length vs) after) vs out head end final
        → Wrote vs text (Ok end) final
    wrote {head} {end} {out} {final} p r =
        let g = grown p r in
        record {
          answers = λ es t e. ap Ok (g.here ∙ ap (λ (x : List Entry). length (sheet_text x)) (one_telegram l.telegram t (sym l.same ∙ e)));
          contents = λ es t e. g.is ∙ ap (λ (x : List Entry). sheet_over (accepted x) text) (one_telegram l.telegram t (sym l.same ∙ e));
        }

-- ---- export

module _ (s : List ℕ) (n : ℕ) (before : List ℕ) where
  pub exports_roomless : length before < 65536 → Export paper s n before (Err (Refused (early Room))) before
  unfolding exported
  exports_roomless h = let e = without_room 65536 (length before) (checked paper s n) h in record { answers = rw e; contents = rw e }

  into : 65536 ≤ length before → exported paper s n (length before) ≡ checked paper s n
  unfolding exported
  into h = with_room 65536 (length before) (checked paper s n) h

  module _ {run after : List ℕ} {a : Answer} (r : Read paper s n run a after) (g : 830 ≤ length run) where
    read_into_lem : read_into paper s n (length run) ≡ checked paper s n
    unfolding read_into
    read_into_lem = with_room 830 (length run) (checked paper s n) g

    read_answers : a ≡ answer_of (checked paper s n)
    read_answers = read_answer r ∙ ap answer_of read_into_lem

    pub exports_refused : {x : Refusal} → a ≡ Err x → 65536 ≤ length before → Export paper s n before (Err (Refused x)) before
    exports_refused {x} q h =
        let e = was_refused (λ es. length (values es)) (checked paper s n) a x read_answers q in
        record { answers = rw (into h, e); contents = rw (into h, e) }

    module _ {count : ℕ} (q : a ≡ Ok count) where
      accepted_as : AcceptedAs (λ es. length (values es)) (checked paper s n) count
      accepted_as = was_accepted (λ es. length (values es)) (checked paper s n) a count read_answers q

      abbrev es : List Entry
      es = accepted_as.entries

      tel : Telegram paper es
      tel = (holds s n es accepted_as.is).telegram

      listed : take count after ≡ values es
      listed =
          ap (take count) (r.contents ∙ ap (λ (x : Result). values_over x run) (read_into_lem ∙ accepted_as.is))
          ∙ take_at (values es) (drop (length (values es)) run) count (sym accepted_as.counted)

      pub few_read : count ≤ 830
      few_read = rw accepted_as.counted (few_values paper tel)

      pub listing : 65536 ≤ length before → Listing (take count after) before
      listing h = record { entries = es; telegram = tel; same = listed; room = h }

      pub exports_written : {b : Reply} {final : List ℕ} → 65536 ≤ length before → Wrote (take count after) before b final
          → Export paper s n before b final
      exports_written {b} {final} h w =
          let e = into h ∙ accepted_as.is in
          record {
            answers = ap in_numbers (w.answers es tel listed ∙ ap length_of (sym e));
            contents = w.contents es tel listed ∙ ap (λ (x : Result). sheet_over x before) (sym e);
          }
