-- The place of a refusal is all that goes by the definition of the place: under any two of them export and import give the same numbers and
-- leave the same. Assumes nothing.
use mathlib.Core.Bool.{Bool, true, false, cond}
use mathlib.Core.List.{List}
use mathlib.Core.Path.{◌≡◌, refl, ap}
use Prim.Native.Nat.{ℕ}
use lib.Dec.{leb}
use Rattle.format.specs.Rules.{State, Context}
use Rattle.format.specs.Telegrams.{Result, values}
use Rattle.format.specs.declared.Kind.{Kind}
use Rattle.format.specs.declared.Kind.TheVariants.{Room}
use Rattle.format.specs.declared.Refusal.{Refusal}
use Rattle.laws.proofs.Place.{Alike, write_alike}
use Rattle.laws.proofs.Place.Alike.{both_accepted, both_refused}
use Rattle.states.specs.Reader.{bytes_needed, early}
use Rattle.states.proofs.Placing.{p, q, same_left, tested_alike, check_alike}
use Rattle.states.specs.Labels.{numbers}
use Rattle.sheet.specs.Reading.{Rows, sheet_in}
use Rattle.sheet.specs.Reading.Rows.{rows, bad}
use Rattle.sheet.specs.Sheets.{number_of, exported, length_of, sheet_over, Imported, judged, on_sheet, imported, import_into, size_of, bytes_over}
use Rattle.sheet.specs.Sheets.Imported.{refused_by}
use Rattle.format.specs.Refusals as refusals

-- two replies have one number, and leave the same
pub data Alike_import : Imported → Imported → Type 0 where
  same : {a : Imported} → Alike_import a a
  both_refused_by : {r s : Refusal} → r.kind ≡ s.kind → Alike_import (refused_by r) (refused_by s)

pub export_number : {a b : Result} → Alike a b → number_of (length_of a) ≡ number_of (length_of b)
export_number both_accepted = refl
export_number (both_refused h) = ap refusals.number_of h

judged_alike : (ks : List ℕ) {a b : Result} → Alike a b → Alike_import (judged ks a) (judged ks b)
judged_alike ks both_accepted = same
judged_alike ks (both_refused h) = both_refused_by h

pub import_number : {a b : Imported} → Alike_import a b → number_of (size_of a) ≡ number_of (size_of b)
import_number same = refl
import_number (both_refused_by h) = ap refusals.number_of h

pub import_left : (before : List ℕ) {a b : Imported} → Alike_import a b → bytes_over a before ≡ bytes_over b before
import_left before same = refl
import_left before (both_refused_by h) = refl

module _ (place other : Kind → State → ℕ) (collides : Context → ℕ → Bool) where
  pub export_alike : (s : List ℕ) (n room : ℕ) → Alike (exported (p place other collides) s n room) (exported (q place other collides) s n room)
  unfolding exported
  export_alike s n room = tested_alike (leb 65536 room) Room (check_alike place other collides s n)

  pub export_leaves : (before s : List ℕ) (n room : ℕ)
      → sheet_over (exported (p place other collides) s n room) before ≡ sheet_over (exported (q place other collides) s n room) before
  export_leaves before s n room = same_left (λ r. sheet_over r before) (λ r t. refl) (export_alike s n room)

  rows_alike : (r : Rows) → Alike_import (on_sheet (p place other collides) r) (on_sheet (q place other collides) r)
  rows_alike (bad k) = same
  rows_alike (rows rs) = judged_alike (numbers rs) (write_alike (p place other collides) (q place other collides) (λ c v. refl) (values rs))

  by_room : (test : Bool) (r : Refusal) {a b : Imported} → Alike_import a b → Alike_import (cond test a (refused_by r)) (cond test b (refused_by r))
  by_room true r h = h
  by_room false r h = same

  pub import_alike : (text : List ℕ) (room : ℕ)
      → Alike_import (import_into (p place other collides) text room) (import_into (q place other collides) text room)
  unfolding import_into imported
  import_alike text room = by_room (leb bytes_needed room) (early Room) (rows_alike (sheet_in text))
