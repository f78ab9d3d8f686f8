-- What the refusals of export and import point at: export's in the bits, as the check's; import's in the telegram of the value column, as the
-- writer's. For any collision rule. Assumes nothing.
use mathlib.Core.Bool.{Bool, true, false, cond}
use mathlib.Core.List.{List}
use mathlib.Core.Path.{◌≡◌, refl}
use Prim.Native.Nat.{ℕ, ◌<◌}
use native.Mathlib.Omega.{arith}
use lib.Dec.{leb}
use lib.ListN.{take}
use Rattle.bits.specs.Bits.{bits_of}
use Rattle.format.specs.Refusals.{number_of}
use Rattle.format.specs.Rules.{Context}
use Rattle.format.specs.Telegrams.{Entry, Result, from_bits, from_values, bits_in, values_in, values, write}
use Rattle.format.specs.Telegrams.Result.{accepted, refused}
use Rattle.format.specs.declared.Kind.TheVariants.{Room}
use Rattle.format.specs.declared.Refusal.{Refusal}
use Rattle.laws.proofs.Points.{Pointed}
use Rattle.laws.proofs.Pointed.{pointing, write_pointed}
use Rattle.states.specs.Reader.{bytes_needed, early, checked}
use Rattle.states.proofs.Pointing.{not_room, room_passed, check_pointed}
use Rattle.sheet.specs.Reading.{Rows, sheet_in}
use Rattle.sheet.specs.Reading.Rows.{rows, bad}
use Rattle.sheet.specs.Sheets.{exported, Imported, other_name, named, judged, on_sheet, imported, import_into}
use Rattle.sheet.specs.Sheets.Imported.{refused_by}
use Rattle.states.specs.Labels.{numbers}
use mathlib.Core.Option.{Option, some, none}

-- the rows that were read, and what the writer's refusal of their values points at
pub record InColumn (collides : Context → ℕ → Bool) (text : List ℕ) (r : Refusal) : Type 0 where
  pub read : List Entry
  pub is : sheet_in text ≡ rows read
  pub pointed : Pointed (pointing collides) from_values values_in (values read) r

-- a refusal of the library's is the writer's
module _ (r : Refusal) where
  named_never : (o : Option ℕ) (es : List Entry) → named o es ≡ refused_by r → ⊥
  named_never none es e = let z : ◌≡◌ {A = ℕ} 0 1 = cc in omega arith
  named_never (some k) es e = let z : ◌≡◌ {A = ℕ} 0 1 = cc in omega arith

  pub by_writer : (ks : List ℕ) (a : Result) → judged ks a ≡ refused_by r → a ≡ refused r
  by_writer ks (refused q) e = cc
  by_writer ks (accepted es) e = absurd (named_never (other_name 0 ks (numbers es)) es e)

module _ (collides : Context → ℕ → Bool) (r : Refusal) (late : 3 < number_of r.kind) where
  pub export_pointed : (s : List ℕ) (n room : ℕ) → exported (pointing collides) s n room ≡ refused r
      → Pointed (pointing collides) from_bits bits_in (take n (bits_of s)) r
  unfolding exported
  export_pointed s n room e =
      check_pointed collides r late s n (room_passed (leb 65536 room) (checked (pointing collides) s n) r late e)

  by_rows : (text : List ℕ) (x : Rows) → sheet_in text ≡ x → on_sheet (pointing collides) x ≡ refused_by r → InColumn collides text r
  by_rows text (bad k) i e = let z : ◌≡◌ {A = ℕ} 0 1 = cc in absurd (omega arith)
  by_rows text (rows rs) i e =
      record { read = rs; is = i; pointed = write_pointed collides (values rs) r (by_writer r (numbers rs) (write (pointing collides) (values rs)) e) }

  by_room : (test : Bool) (a : Imported) → cond test a (refused_by (early Room)) ≡ refused_by r → a ≡ refused_by r
  by_room true a e = e
  by_room false a e = absurd (not_room r (cc) late)

  pub import_pointed : (text : List ℕ) (room : ℕ) → import_into (pointing collides) text room ≡ refused_by r → InColumn collides text r
  unfolding import_into imported
  import_pointed text room e = by_rows text (sheet_in text) refl (by_room (leb bytes_needed room) (imported (pointing collides) text) e)
