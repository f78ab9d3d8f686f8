-- What a stricter rule of directions changes in the answers of export and import: what was accepted is refused just where it has a pair, as
-- 10 at its first; and what was refused is refused in the same way, or as 10. Assumes nothing.
use mathlib.Core.Bool.{Bool, true, false, cond}
use mathlib.Core.List.{List}
use mathlib.Core.Logic.{◌↔◌, ◌⊎◌, inl, inr, ⊎_elim}
use mathlib.Core.Option.{Option, some, none}
use mathlib.Core.Path.{◌≡◌, refl}
use Prim.Native.Nat.{ℕ, ◌<◌}
use native.Mathlib.Omega.{arith}
use lib.Dec.{leb}
use lib.ListN.{take}
use Rattle.bits.specs.Bits.{bits_of}
use Rattle.format.specs.Refusals.{number_of}
use Rattle.format.specs.Rules.{collides_by}
use Rattle.format.specs.Telegrams.{Entry, Result, values, from_bits, from_values, bits_in, values_in}
use Rattle.format.specs.Telegrams.Result.{accepted, refused}
use Rattle.format.specs.declared.Kind.TheVariants.{Room, Repeated}
use Rattle.format.specs.declared.Refusal.{Refusal}
use Rattle.laws.proofs.Pairs.{Pair, Implies}
use Rattle.laws.proofs.Tens.{directing, AtFirst, Repeats, pointed_repeats}
use Rattle.laws.proofs.Changed.{Changed, write_changed}
use Rattle.states.specs.Reader.{bytes_needed, early}
use Rattle.states.proofs.Changing.{tested_changed, check_changed}
use Rattle.states.specs.Labels.{numbers}
use Rattle.sheet.specs.Reading.{Rows, sheet_in}
use Rattle.sheet.specs.Reading.Rows.{rows, bad}
use Rattle.sheet.specs.Sheets.{exported, Imported, other_name, named, judged, on_sheet, imported, import_into}
use Rattle.sheet.proofs.Pointing.{by_writer, export_pointed, import_pointed}
use Rattle.sheet.specs.Sheets.Imported.{taken, refused_by, refused_at}

-- an import before, and now by the stricter rule
pub record Changed_import (strong : ℕ → ℕ → Bool) (before now : Imported) : Type 0 where
  -- just what was taken and has no pair is taken now
  pub takes : (es : List Entry) → (now ≡ taken es) ↔ ((before ≡ taken es) × (Pair strong es → ⊥))
  -- what was taken is refused now just where it has a pair
  pub turns : (es : List Entry) → before ≡ taken es → ((r : Refusal) × (now ≡ refused_by r)) ↔ Pair strong es
  -- and that as 10 at the first
  pub there : (es : List Entry) (r : Refusal) → before ≡ taken es → now ≡ refused_by r → AtFirst strong es r
  -- what is refused now was refused in the same way, or is a 10; what is refused by 20 now was so before, at that row
  pub still : (r : Refusal) → now ≡ refused_by r → (before ≡ refused_by r) ⊎ (r.kind ≡ Repeated)
  pub still_row : (k : ℕ) → now ≡ refused_at k → before ≡ refused_at k

-- ---- the value column

-- what a sheet's rows are judged as is what the writer accepts, under the names that are due
module _ (ks : List ℕ) where
  taken_is : (a : Result) (es : List Entry) → judged ks a ≡ taken es → (a ≡ accepted es) × (named (other_name 0 ks (numbers es)) es ≡ taken es)
  taken_is (refused r) es e = let z : ◌≡◌ {A = ℕ} 0 1 = cc in absurd (omega arith)
  taken_is (accepted fs) es e = by_names (other_name 0 ks (numbers fs)) refl e
    where
      by_names : (o : Option ℕ) → other_name 0 ks (numbers fs) ≡ o → named o fs ≡ taken es
          → (accepted fs ≡ accepted es) × (named (other_name 0 ks (numbers es)) es ≡ taken es)
      by_names none i h = let j : fs ≡ es = cc in (cc, rw (← j, i))
      by_names (some k) i h = let z : ◌≡◌ {A = ℕ} 0 1 = cc in absurd (omega arith)

  row_is : (a : Result) (k : ℕ) → judged ks a ≡ refused_at k → (es : List Entry) × (a ≡ accepted es)
  row_is (refused r) k e = let z : ◌≡◌ {A = ℕ} 0 1 = cc in absurd (omega arith)
  row_is (accepted es) k e = (es, refl)

  judged_changed : {strong : ℕ → ℕ → Bool} {a b : Result} → Changed strong a b → Changed_import strong (judged ks a) (judged ks b)
  judged_changed {strong} {a} {b} c =
      record {
        takes = λ es. (
          λ e. let h = taken_is b es e in let w = (c.accepts es).0 h.0 in (rw w.0 h.1, w.1),
          λ e. let h = taken_is a es e.0 in rw ((c.accepts es).1 (h.0, e.1)) h.1,
        );
        turns = λ es e. let h = taken_is a es e in (
          λ r. (c.turns es h.0).0 (r.0, by_writer r.0 ks b r.1),
          λ k. let r = (c.turns es h.0).1 k in (r.0, rw r.1),
        );
        there = λ es r e f. c.there es r (taken_is a es e).0 (by_writer r ks b f);
        still = λ r e. ⊎_elim (λ h. inl (rw h)) inr (c.still r (by_writer r ks b e));
        still_row = λ k e. let h = row_is b k e in rw ((c.accepts h.0).0 h.1).0 (rw h.1 at e);
      }

-- ---- export and import

-- what is not taken before is not taken now
same_changed : (strong : ℕ → ℕ → Bool) {a : Imported} → ((es : List Entry) → a ≡ taken es → ⊥) → Changed_import strong a a
same_changed strong never =
    record {
      takes = λ es. (λ e. absurd (never es e), λ h. h.0);
      turns = λ es e. absurd (never es e);
      there = λ es r e. absurd (never es e);
      still = λ r e. inl e;
      still_row = λ k e. e;
    }

module _ (weak strong : ℕ → ℕ → Bool) (implies : Implies weak strong) where
  pub export_changed : (s : List ℕ) (n room : ℕ) → Changed strong (exported (directing weak) s n room) (exported (directing strong) s n room)
  unfolding exported
  export_changed s n room = tested_changed (leb 65536 room) Room (λ i. check_changed weak strong implies s n)

  rows_changed : (r : Rows) → Changed_import strong (on_sheet (directing weak) r) (on_sheet (directing strong) r)
  rows_changed (bad k) = same_changed strong (λ es e. let z : ◌≡◌ {A = ℕ} 0 1 = cc in omega arith)
  rows_changed (rows rs) = judged_changed (numbers rs) (write_changed weak strong implies (values rs))

  by_room : (test : Bool) (r : Refusal) {a b : Imported} → Changed_import strong a b
      → Changed_import strong (cond test a (refused_by r)) (cond test b (refused_by r))
  by_room true r h = h
  by_room false r h = same_changed strong (λ es e. let z : ◌≡◌ {A = ℕ} 0 1 = cc in omega arith)

  pub import_changed : (text : List ℕ) (room : ℕ) → Changed_import strong (import_into (directing weak) text room) (import_into (directing strong) text room)
  unfolding import_into imported
  import_changed text room = by_room (leb bytes_needed room) (early Room) (rows_changed (sheet_in text))

-- ---- what a 10 is

-- of a sheet's value column
pub record InSheet (collide : ℕ → ℕ → Bool) (text : List ℕ) (r : Refusal) : Type 0 where
  pub read : List Entry
  pub is : sheet_in text ≡ rows read
  pub repeats : Repeats collide from_values values_in (values read) r

module _ (collide : ℕ → ℕ → Bool) (r : Refusal) (ten : r.kind ≡ Repeated) where
  late : 3 < number_of r.kind
  late = rw ten (omega arith)

  pub export_repeats : (s : List ℕ) (n room : ℕ) → exported (directing collide) s n room ≡ refused r
      → Repeats collide from_bits bits_in (take n (bits_of s)) r
  export_repeats s n room e = pointed_repeats collide (export_pointed (collides_by collide) r late s n room e) ten

  pub import_repeats : (text : List ℕ) (room : ℕ) → import_into (directing collide) text room ≡ refused_by r → InSheet collide text r
  import_repeats text room e =
      let h = import_pointed (collides_by collide) r late text room e in
      record { read = h.read; is = h.is; repeats = pointed_repeats collide h.pointed ten }
