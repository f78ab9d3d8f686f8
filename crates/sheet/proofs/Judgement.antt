-- What import answers once the rows are read, by the tests that it makes: the writer's, then the names. Assumes nothing.
use Rattle.std.specs.Prelude.{Ok, Err, Some, None}
use mathlib.Core.Path.{◌≡◌, sym, ap, ap₂, ◌∙◌, subst}
use mathlib.Core.List.{List}
use mathlib.Core.Option.{Option}
use Prim.Native.Nat.{ℕ, ◌≤◌, ◌<◌}
use borrow.Author.Tests.{le-leb, lt-leb}
use lib.ListN.{length, take, drop}
use lib.Seq.{take_at}
use Rattle.bits.specs.Bits.{Below}
use Rattle.format.specs.Rules.{paper}
use Rattle.format.specs.Telegrams.{Entry, Result, bit_count, write}
use Rattle.format.specs.Telegrams.Result.{accepted, refused}
use Rattle.format.specs.declared.Kind.TheVariants.{Room}
use Rattle.format.specs.declared.Refusal.{Refusal}
use Rattle.laws.proofs.Demand2.{write_is}
use Rattle.states.specs.Labels.{numbers, label_into, numbers_over, Label}
use Rattle.states.specs.Writer.{write_into, Write}
use Rattle.states.proofs.Answered.{label_answer, write_answer}
use Rattle.states.proofs.Checking.{was_refused}
use Rattle.states.proofs.Leaving.{same_length}
use Rattle.states.proofs.Rooms.{with_room}
use Rattle.states.proofs.Writing.{Written, written}
use Rattle.states.specs.Reader.{early}
use Rattle.states.specs.Writer as writer
use Rattle.sheet.specs.Sheets.{in_numbers, Imported, named, judged, on_sheet, imported, import_into, size_of, bytes_over, Import}
use Rattle.sheet.specs.Sheets.Imported.{taken, refused_by, refused_at}
use Rattle.sheet.specs.Steps.{rows_read, FewRows, columns_into, Judged, found, Other, Collected}
use Rattle.sheet.proofs.Columns.{values_of, numbers_of}
use Rattle.format.specs.Refusals.{Answer}
use Rattle.sheet.specs.declared.SheetError.TheVariants.{Refused, Row}
use Rattle.sheet.specs.Replies.{Reply}
use Rattle.std.specs.Prelude as code

-- ---- what `label` finds

module _ {vs due after : List ℕ} {a : Answer} (l : Label paper vs due a after) (h : 830 ≤ length due) where
  into : label_into paper vs (length due) ≡ write paper vs
  unfolding label_into
  into = with_room 830 (length due) (write paper vs) h

  pub label_answers : a ≡ writer.size_of (write paper vs)
  label_answers = label_answer l ∙ ap writer.size_of into

  pub label_refused : {x : Refusal} → a ≡ Err x → write paper vs ≡ refused x
  label_refused {x} q = was_refused bit_count (write paper vs) a x label_answers q

  pub named_as : (es : List Entry) → write paper vs ≡ accepted es → take (length vs) after ≡ numbers es
  named_as es e =
      let t = write_is paper vs es e in
      let long : length (numbers es) ≡ length vs = same_length es ∙ ap length (sym t.1) in
      ap (take (length vs)) (l.contents ∙ ap (λ (r : Result). numbers_over r due) (into ∙ e))
      ∙ take_at (numbers es) (drop (length (numbers es)) due) (length vs) long

  -- the telegram with these values
  pub label_accepted : {n : ℕ} → a ≡ Ok n → Written vs n
  label_accepted {n} q = written vs label_answers q

-- ---- after the rows

module _ (ks vs before : List ℕ) where
  pub judges_roomless : length before < 104 → Judged ks vs before (Err (Refused (early Room))) before
  unfolding columns_into
  judges_roomless h = record { answers = rw (lt-leb 104 (length before) h); contents = rw (lt-leb 104 (length before) h) }

  module _ (h : 104 ≤ length before) where
    columns_are : columns_into paper ks vs (length before) ≡ judged ks (write paper vs)
    unfolding columns_into
    columns_are = rw (le-leb 104 (length before) h)

    judged_as : (j : Imported) → judged ks (write paper vs) ≡ j → Judged ks vs before (size_of j) (bytes_over j before)
    judged_as j e =
        record { answers = ap (λ (x : Imported). in_numbers (size_of x)) (sym (columns_are ∙ e)); contents = ap (λ (x : Imported). bytes_over x before) (sym (columns_are ∙ e)) }

    pub judges_refused : {x : Refusal} → write paper vs ≡ refused x → Judged ks vs before (Err (Refused x)) before
    judges_refused {x} e = judged_as (refused_by x) (ap (judged ks) e)

    module _ (es : List Entry) (e : write paper vs ≡ accepted es) where
      first : (row : code.Option ℕ) → Other ks (numbers es) row → judged ks (write paper vs) ≡ named (found row) es
      first row o = ap (judged ks) e ∙ ap (λ (x : Option ℕ). named x es) o

      pub judges_named : {r : ℕ} → Other ks (numbers es) (Some r) → Judged ks vs before (Err (Row r)) before
      judges_named {r} o = judged_as (refused_at r) (first (Some r) o)

      wrote : write_into paper vs (length before) ≡ accepted es
      unfolding write_into
      wrote = with_room 104 (length before) (write paper vs) h ∙ e

      -- the writer accepts what `label` accepted, once there is room
      pub writes : {b : Answer} {after : List ℕ} → Write paper vs before b after → b ≡ Ok (bit_count es)
      writes w = write_answer w ∙ ap writer.size_of wrote

      -- the telegram, written
      pub judges_taken : Other ks (numbers es) None → {b : Answer} {after : List ℕ} → Write paper vs before b after → {n : ℕ} → n ≡ bit_count es
          → Judged ks vs before (Ok n) after
      judges_taken o {b} {after} w {n} size =
          let taken_is : columns_into paper ks vs (length before) ≡ taken es = columns_are ∙ first None o in
          record {
            answers = ap in_numbers (ap Ok size ∙ ap size_of (sym taken_is));
            contents =
                w.contents ∙ ap (λ (x : Result). writer.bytes_over x before) wrote ∙ ap (λ (x : Imported). bytes_over x before) (sym taken_is);
          }

-- ---- import

module _ (text before : List ℕ) where
  pub imports_roomless : length before < 104 → Import paper text before (Err (Refused (early Room))) before
  unfolding import_into
  imports_roomless h = record { answers = rw (lt-leb 104 (length before) h); contents = rw (lt-leb 104 (length before) h) }

  module _ (h : 104 ≤ length before) {r : code.Result ℕ ℕ} {ks vs : List ℕ} (c : Collected text r ks vs) where
    import_is : import_into paper text (length before) ≡ on_sheet paper (rows_read r ks vs)
    unfolding import_into imported
    import_is = rw (le-leb 104 (length before) h) (ap (on_sheet paper) c.is)

    pub imports_bad : {k : ℕ} → r ≡ Err k → Import paper text before (Err (Row k)) before
    imports_bad {k} e = record { answers = rw import_is (rw e); contents = rw import_is (rw e) }

    module _ {n : ℕ} (e : r ≡ Ok n) (same : length (take n ks) ≡ length (take n vs)) where
      known : Below 72 (take n ks)
      known = (subst (λ (x : code.Result ℕ ℕ). FewRows x ks) e c.few).1

      here : import_into paper text (length before) ≡ columns_into paper (take n ks) (take n vs) (length before)
      here =
          import_is
          ∙ ap (λ (x : code.Result ℕ ℕ). on_sheet paper (rows_read x ks vs)) e
          ∙ ap₂ (λ (k v : List ℕ). judged k (write paper v)) (numbers_of (take n ks) (take n vs) same known) (values_of (take n ks) (take n vs) same)
          ∙ sym (columns_are (take n ks) (take n vs) before h)

      pub imports_judged : {a : Reply} {after : List ℕ} → Judged (take n ks) (take n vs) before a after → Import paper text before a after
      imports_judged j =
          record {
            answers = j.answers ∙ ap (λ (x : Imported). in_numbers (size_of x)) (sym here);
            contents = j.contents ∙ ap (λ (x : Imported). bytes_over x before) (sym here);
          }
