-- Refusal 20 of import is given just as the request says. Assumes nothing.
use mathlib.Core.Path.{◌≡◌, refl, ap, ◌∙◌}
use mathlib.Core.List.{List}
use mathlib.Core.Logic.{◌↔◌}
use mathlib.Core.Option.{Option, some, none}
use Prim.Native.Nat.{ℕ}
use native.Mathlib.Omega.{arith}
use Rattle.format.specs.Rules.{paper}
use Rattle.format.specs.Telegrams.{Entry, Result, values, write}
use Rattle.format.specs.Telegrams.Result.{accepted, refused}
use Rattle.laws.proofs.Demand2.{write_is}
use Rattle.laws.proofs.Listed.{AllKnown, telegram_listed}
use Rattle.states.specs.Labels.{numbers}
use Rattle.sheet.specs.Reading.{sheet_in}
use Rattle.sheet.specs.Reading.Rows.{rows, bad}
use Rattle.sheet.specs.Reading as reading
use Rattle.sheet.specs.Sheets.{other_name, named, judged, on_sheet, imported}
use Rattle.sheet.specs.Sheets.Imported.{refused_at}
use Rattle.given.specs.Broken.Medium.{in_values}
use Rattle.given.specs.Given.{Accepted}
use Rattle.given.proofs.Accepted.{write_judged}
use Rattle.entrances.specs.Rows.{Column, RowGiven}
use Rattle.entrances.specs.Rows.RowGiven.{bad_row, other_named}
use Rattle.entrances.proofs.Fronts.{all_known}
use Rattle.entrances.proofs.Names.{other_name_is}
use Rattle.entrances.proofs.Sheets.{sheet_rows, sheet_bad}

-- ---- the telegram of the value column

abbrev Written : List Entry → List Entry → Type 0
Written rs es = Accepted in_values (values rs) es

written_is : (rs es : List Entry) → (write paper (values rs) ≡ accepted es) ↔ Written rs es
written_is rs es = (write_judged (values rs)).accepts es

-- its entries are of fields of the tables
written_known : (rs es : List Entry) → Written rs es → AllKnown es
written_known rs es w = telegram_listed paper (write_is paper (values rs) es ((written_is rs es).1 w)).0

-- ---- the row that is refused

module _ (text : List ℕ) (k : ℕ) where
  module _ (rs : List Entry) (c : Column text rs) where
    by_name : (es : List Entry) → Written rs es → (o : Option ℕ) → other_name 0 (numbers rs) (numbers es) ≡ o → named o es ≡ refused_at k → RowGiven text k
    by_name es w none q e = let z : ◌≡◌ {A = ℕ} 0 1 = cc in absurd (omega arith)
    by_name es w (some j) q e =
        let i : j ≡ k = cc in
        other_named rs es c w ((other_name_is rs es k (all_known rs c.rows) (written_known rs es w)).0 (q ∙ ap some i))

    by_result : (r : Result) → write paper (values rs) ≡ r → judged (numbers rs) r ≡ refused_at k → RowGiven text k
    by_result (refused x) q e = let z : ◌≡◌ {A = ℕ} 0 1 = cc in absurd (omega arith)
    by_result (accepted es) q e = by_name es ((written_is rs es).0 q) (other_name 0 (numbers rs) (numbers es)) refl e

  by_rows : (x : reading.Rows) → sheet_in text ≡ x → on_sheet paper x ≡ refused_at k → RowGiven text k
  by_rows (bad j) q e = let i : j ≡ k = cc in bad_row ((sheet_bad text k).0 (q ∙ ap bad i))
  by_rows (rows rs) q e = by_result rs ((sheet_rows text rs).0 q) (write paper (values rs)) refl e

  given : RowGiven text k → on_sheet paper (sheet_in text) ≡ refused_at k
  given (bad_row b) = rw ((sheet_bad text k).1 b)
  given (other_named rs es c w o) =
      rw ((sheet_rows text rs).1 c, (written_is rs es).1 w, (other_name_is rs es k (all_known rs c.rows) (written_known rs es w)).1 o)

  -- import refuses a row by 20 just where it is the one that is given
  pub imported_row : (imported paper text ≡ refused_at k) ↔ RowGiven text k
  unfolding imported
  imported_row = (by_rows (sheet_in text) refl, given)

-- so that no text has two such rows
pub one_row : (text : List ℕ) (j k : ℕ) → RowGiven text j → RowGiven text k → j ≡ k
one_row text j k a b = let x = (imported_row text j).1 a in let y = (imported_row text k).1 b in cc
