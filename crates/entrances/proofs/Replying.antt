-- What export and import reply, from their promises alone: done, one of 1 to 13, or 20 at a row. Assumes nothing.
use Rattle.std.specs.Prelude.{Ok, Err}
use mathlib.Core.Bool.{Bool, true, false, cond}
use mathlib.Core.List.{List}
use mathlib.Core.Logic.{◌↔◌}
use mathlib.Core.Option.{Option, some, none}
use mathlib.Core.Path.{◌≡◌, refl, sym, ◌∙◌}
use Prim.Native.Nat.{ℕ, ◌≤◌}
use native.Mathlib.Omega.{arith}
use borrow.Author.Tests.{leb-true, leb-false, le-leb, lt-leb}
use lib.Dec.{leb}
use lib.ListN.{length}
use Rattle.format.specs.Judges.{Judges}
use Rattle.format.specs.Rules.{paper}
use Rattle.format.specs.Telegrams.{Entry, Result, values, bit_count, write}
use Rattle.format.specs.Telegrams.Result.{accepted, refused}
use Rattle.format.specs.declared.Kind.TheVariants.{Room}
use Rattle.format.specs.declared.Refusal.{Refusal}
use Rattle.states.specs.Labels.{numbers}
use Rattle.states.specs.Reader.{early}
use Rattle.sheet.specs.Reading.{sheet_in}
use Rattle.sheet.specs.Reading.Rows.{rows, bad}
use Rattle.sheet.specs.Reading as reading
use Rattle.sheet.specs.Sheets.{Imported, exported, length_of, Export, other_name, named, judged, on_sheet, imported, import_into, size_of, Import}
use Rattle.sheet.specs.Sheets.Imported.{taken, refused_by, refused_at}
use Rattle.sheet.proofs.Back.{sheet_back, only_sheets}
use Rattle.sheet.proofs.Numbers.{export_answer, import_answer}
use Rattle.given.proofs.Accepted.{kept_is, write_judged}
use Rattle.entrances.specs.Entrances.{RoomGiven, RoomAccepted}
use Rattle.entrances.specs.Entrances.RoomGiven.{one, otherwise}
use Rattle.entrances.specs.Rows.{ColumnGiven, SheetAccepted, ExportGiven, ExportAccepted, ExportedLength, ImportGiven, ImportRow, ImportedSize, Replies}
use Rattle.entrances.proofs.Lifted.{room_judged}
use Rattle.entrances.proofs.Bytes.{check_judged}
use Rattle.entrances.proofs.Sheets.{sheet_rows}
use Rattle.entrances.proofs.Rows.{imported_row}
use Rattle.sheet.specs.declared.SheetError.TheVariants.{Refused, Row}
use Rattle.sheet.specs.Replies.{Reply}

-- ---- export

pub export_judged : (s : List ℕ) (n room : ℕ) → Judges (ExportAccepted s n room) (ExportGiven s n room) (exported paper s n room)
unfolding exported
export_judged s n room = room_judged (check_judged s n) 65536 room

module _ (s : List ℕ) (n room : ℕ) where
  sized : (b : Result) → exported paper s n room ≡ b → (size : ℕ) → length_of b ≡ Ok size → ExportedLength s n room size
  sized (accepted es) e size h = (es, ((export_judged s n room).accepts es).0 e, cc)
  sized (refused r) e size h = let z : ◌≡◌ {A = ℕ} 0 1 = cc in absurd (omega arith)

told : (b : Result) (r : Refusal) → (length_of b ≡ Err (Refused r)) ↔ (b ≡ refused r)
told (accepted es) r = (λ e. cc, λ e. cc)
told (refused q) r = (λ e. cc, λ e. cc)

no_row : (b : Result) (k : ℕ) → length_of b ≡ Err (Row k) → ⊥
no_row (accepted es) k e = let z : ◌≡◌ {A = ℕ} 0 1 = cc in omega arith
no_row (refused r) k e = let z : ◌≡◌ {A = ℕ} 0 1 = cc in omega arith

pub export_replies : {s : List ℕ} {n : ℕ} {before after : List ℕ} {reply : Reply} → Export paper s n before reply after
    → Replies (ExportedLength s n (length before)) (ExportGiven s n (length before)) (λ k. ⊥) reply
export_replies {s} {n} {before} {after} {reply} h =
    let i = export_answer h in
    let room = length before in
    let a = exported paper s n room in
    let j = export_judged s n room in
    record {
      done = λ m. (λ e. sized s n room a refl m (sym i ∙ e), λ w. i ∙ rw ((j.accepts w.0).1 w.1, w.2));
      refuses = λ r. (λ e. (j.refuses r).0 ((told a r).0 (sym i ∙ e)), λ w. i ∙ (told a r).1 ((j.refuses r).1 w));
      rows = λ k. (λ e. no_row a k (sym i ∙ e), λ w. absurd w);
    }

-- ---- rows that are judged, behind a test of room: one law for import and for `judge`

pub record Judging (Right : List Entry → Type 0) (Wrong : Refusal → Type 0) (Bad : ℕ → Type 0) (a : Imported) : Type 0 where
  pub takes : (es : List Entry) → (a ≡ taken es) ↔ Right es
  pub refuses : (r : Refusal) → (a ≡ refused_by r) ↔ Wrong r
  pub rows : (k : ℕ) → (a ≡ refused_at k) ↔ Bad k

-- what is replied of each
refused_is : (b : Imported) (r : Refusal) → (size_of b ≡ Err (Refused r)) ↔ (b ≡ refused_by r)
refused_is (taken es) r = (λ e. cc, λ e. cc)
refused_is (refused_by q) r = (λ e. cc, λ e. cc)
refused_is (refused_at k) r = (λ e. cc, λ e. cc)

row_is : (b : Imported) (k : ℕ) → (size_of b ≡ Err (Row k)) ↔ (b ≡ refused_at k)
row_is (taken es) k = (λ e. cc, λ e. cc)
row_is (refused_by q) k = (λ e. cc, λ e. cc)
row_is (refused_at j) k = (λ e. cc, λ e. cc)

module _ {Right : List Entry → Type 0} {Wrong : Refusal → Type 0} {Bad : ℕ → Type 0} {a : Imported} (j : Judging Right Wrong Bad a) (room : ℕ) where
  abbrev By : Bool → Imported
  By b = cond b a (refused_by (early Room))

  by_room : (b : Bool) → leb 104 room ≡ b → (r : Refusal) → By b ≡ refused_by r → RoomGiven 104 room Wrong r
  by_room true e r h = otherwise (leb-true 104 room e) ((j.refuses r).0 h)
  by_room false e r h = let i : early Room ≡ r = cc in rw (← i) (one (leb-false 104 room e))

  in_room : {r : Refusal} → RoomGiven 104 room Wrong r → By (leb 104 room) ≡ refused_by r
  in_room (one l) = rw (lt-leb 104 room l)
  in_room (otherwise {r = r} l o) = rw (le-leb 104 room l) ((j.refuses r).1 o)

  row_by : (b : Bool) → leb 104 room ≡ b → (k : ℕ) → By b ≡ refused_at k → (104 ≤ room) × Bad k
  row_by true e k h = (leb-true 104 room e, (j.rows k).0 h)
  row_by false e k h = let z : ◌≡◌ {A = ℕ} 0 1 = cc in absurd (omega arith)

  taken_by : (b : Bool) → leb 104 room ≡ b → (es : List Entry) → By b ≡ taken es → RoomAccepted 104 room Right es
  taken_by true e es h = record { enough = leb-true 104 room e; accepted = (j.takes es).0 h }
  taken_by false e es h = let z : ◌≡◌ {A = ℕ} 0 1 = cc in absurd (omega arith)

  done_by : (b : Imported) → By (leb 104 room) ≡ b → (n : ℕ) → size_of b ≡ Ok n → (es : List Entry) × RoomAccepted 104 room Right es × (n ≡ bit_count es)
  done_by (taken es) e n h = (es, taken_by (leb 104 room) refl es e, cc)
  done_by (refused_by r) e n h = let z : ◌≡◌ {A = ℕ} 0 1 = cc in absurd (omega arith)
  done_by (refused_at k) e n h = let z : ◌≡◌ {A = ℕ} 0 1 = cc in absurd (omega arith)

  pub judging_replies : (reply : Reply) → reply ≡ size_of (By (leb 104 room))
      → Replies (λ n. (es : List Entry) × RoomAccepted 104 room Right es × (n ≡ bit_count es)) (RoomGiven 104 room Wrong) (λ k. (104 ≤ room) × Bad k) reply
  judging_replies reply i =
      let b = By (leb 104 room) in
      record {
        done = λ n. (λ e. done_by b refl n (sym i ∙ e), λ w. i ∙ rw (le-leb 104 room w.1.enough, (j.takes w.0).1 w.1.accepted, w.2));
        refuses = λ r. (λ e. by_room (leb 104 room) refl r ((refused_is b r).0 (sym i ∙ e)), λ w. i ∙ (refused_is b r).1 (in_room w));
        rows = λ k. (
          λ e. row_by (leb 104 room) refl k ((row_is b k).0 (sym i ∙ e)),
          λ w. i ∙ (row_is b k).1 (rw (le-leb 104 room w.0) ((j.rows k).1 w.1)),
        );
      }

-- ---- import

named_not : {A : Type 0} (o : Option ℕ) (es : List Entry) (r : Refusal) → named o es ≡ refused_by r → A
named_not none es r e = let z : ◌≡◌ {A = ℕ} 0 1 = cc in absurd (omega arith)
named_not (some k) es r e = let z : ◌≡◌ {A = ℕ} 0 1 = cc in absurd (omega arith)

pub judged_refused : (ks : List ℕ) (a : Result) (r : Refusal) → (judged ks a ≡ refused_by r) ↔ (a ≡ refused r)
judged_refused ks (accepted es) r = (λ e. named_not (other_name 0 ks (numbers es)) es r e, λ e. cc)
judged_refused ks (refused q) r = (λ e. cc, λ e. cc)

module _ (text : List ℕ) where
  by_rows : (r : Refusal) (x : reading.Rows) → sheet_in text ≡ x → on_sheet paper x ≡ refused_by r → ColumnGiven text r
  by_rows r (bad k) i e = let z : ◌≡◌ {A = ℕ} 0 1 = cc in absurd (omega arith)
  by_rows r (rows rs) i e =
      record {
        written = rs;
        column = (sheet_rows text rs).0 i;
        given = ((write_judged (values rs)).refuses r).0 ((judged_refused (numbers rs) (write paper (values rs)) r).0 e);
      }

  pub imported_given : (r : Refusal) → (imported paper text ≡ refused_by r) ↔ ColumnGiven text r
  unfolding imported
  imported_given r = (
    by_rows r (sheet_in text) refl,
    λ g.
        rw ((sheet_rows text g.written).1 g.column)
        ((judged_refused (numbers g.written) (write paper (values g.written)) r).1 (((write_judged (values g.written)).refuses r).1 g.given)),
  )

  pub imported_accepted : (es : List Entry) → (imported paper text ≡ taken es) ↔ SheetAccepted text es
  imported_accepted es = (
    λ e. let w = only_sheets paper text es e in record { kept = (kept_is es).0 w.0; is = w.1 },
    λ a. rw a.is (sheet_back paper ((kept_is es).1 a.kept)),
  )

pub import_replies : {text before after : List ℕ} {reply : Reply} → Import paper text before reply after
    → Replies (ImportedSize text (length before)) (ImportGiven text (length before)) (ImportRow text (length before)) reply
unfolding import_into
import_replies {text} {before} {after} {reply} h =
    judging_replies (record { takes = imported_accepted text; refuses = imported_given text; rows = imported_row text }) (length before) reply (import_answer h)
