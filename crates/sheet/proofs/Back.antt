-- Demand 2 for sheets: "Export gives the one sheet of an accepted telegram; import of that sheet gives the telegram again. Import accepts only
-- sheets that export writes". For any terms. Assumes nothing.
use mathlib.Core.Path.{◌≡◌, refl, sym, ap, ap₂, ◌∙◌}
use mathlib.Core.Bool.{Bool, true, false, cond}
use mathlib.Core.List.{List, [], ◌∷◌}
use mathlib.Core.Option.{Option, some, none}
use Prim.Native.Nat.{ℕ, suc, ◌≤◌}
use native.Mathlib.Omega.{arith}
use borrow.Author.Tests.{eq-eqb, eqb-true, le-leb}
use lib.Dec.{eqb}
use lib.ListN.{length}
use Rattle.bits.specs.Bits.{bytes_of}
use Rattle.format.specs.Rules.{Terms}
use Rattle.format.specs.Telegrams.{Entry, Result, Telegram, bits, bit_count, values, values_in, write}
use Rattle.format.specs.Telegrams.Result.{accepted, refused}
use Rattle.laws.proofs.Demand2.{writes, write_is}
use Rattle.laws.proofs.Listed.{telegram_listed}
use Rattle.states.specs.Labels.{numbers}
use Rattle.states.proofs.Accepting.{checks}
use Rattle.states.proofs.Leaving.{few_values, same_length}
use Rattle.sheet.specs.Rows.{sheet_text}
use Rattle.sheet.specs.Reading.{Rows, sheet_in}
use Rattle.sheet.specs.Reading.Rows.{rows, bad}
use Rattle.sheet.specs.Sheets.{exported, other_name, named, judged, on_sheet, imported}
use Rattle.sheet.specs.Sheets.Imported.{taken}
use Rattle.sheet.specs.Steps.{entries_of}
use Rattle.sheet.proofs.Columns.{entries_of_lem}
use Rattle.sheet.proofs.Readable.{all_readable}
use Rattle.sheet.proofs.Written.{sheet_read}
use Rattle.sheet.proofs.Taken.{Stands, sheet_stands}

-- ---- the names that are due

none_other : (n : ℕ) (ks : List ℕ) → other_name n ks ks ≡ none
none_other n [] = refl
none_other n (k ∷ ks) = rw (eq-eqb k k refl) (none_other (suc n) ks)

same_names : (n : ℕ) (ks ds : List ℕ) → length ks ≡ length ds → other_name n ks ds ≡ none → ks ≡ ds
same_names n [] [] h e = refl
same_names n [] (d ∷ ds) h e = absurd (omega arith)
same_names n (k ∷ ks) [] h e = absurd (omega arith)
same_names n (k ∷ ks) (d ∷ ds) h e = by (eqb k d) refl (same_names (suc n) ks ds (omega arith)) e
  where
    by : (b : Bool) → eqb k d ≡ b → (other_name (suc n) ks ds ≡ none → ks ≡ ds) → cond b (other_name (suc n) ks ds) (some (suc n)) ≡ none → k ∷ ks ≡ d ∷ ds
    by true q ih z = ap₂ (λ (x : ℕ) (l : List ℕ). x ∷ l) (eqb-true k d q) (ih z)
    by false q ih z = cc

count_entries : (es : List Entry) → length es ≡ length (values es)
unfolding values_in
count_entries [] = refl
count_entries (e ∷ es) = ap suc (count_entries es)

module _ (p : Terms) where
  -- ---- import of an exported sheet

  few : {es : List Entry} → Telegram p es → length es ≤ 830
  few {es} t = rw (count_entries es) (few_values p t)

  -- "import of that sheet gives the telegram again"
  pub sheet_back : {es : List Entry} → Telegram p es → imported p (sheet_text es) ≡ taken es
  unfolding imported
  sheet_back {es} t =
      ap (on_sheet p) (sheet_read es (all_readable p t) (few t))
      ∙ ap (judged (numbers es)) (writes p t)
      ∙ ap (λ (o : Option ℕ). named o es) (none_other 0 (numbers es))

  -- ---- what import accepts

  module _ (text : List ℕ) (es : List Entry) where
    by_names : (rs : List Entry) → Stands sheet_text text rs → write p (values rs) ≡ accepted es → other_name 0 (numbers rs) (numbers es) ≡ none
        → Telegram p es × (text ≡ sheet_text es)
    by_names rs s e o =
        let t = write_is p (values rs) es e in
        let long : length (numbers rs) ≡ length (numbers es) = same_length rs ∙ ap length t.1 ∙ sym (same_length es) in
        let one : rs ≡ es =
        sym (entries_of_lem rs s.known) ∙ ap₂ entries_of (same_names 0 (numbers rs) (numbers es) long o) t.1
        ∙ entries_of_lem es (telegram_listed p t.0) in
        (t.0, s.is ∙ ap sheet_text one)

    by_result : (rs : List Entry) → Stands sheet_text text rs → (r : Result) → write p (values rs) ≡ r → judged (numbers rs) r ≡ taken es
        → Telegram p es × (text ≡ sheet_text es)
    by_result rs s (refused x) q z = let w : ◌≡◌ {A = ℕ} 0 1 = cc in absurd (omega arith)
    by_result rs s (accepted fs) q z = by_name (other_name 0 (numbers rs) (numbers fs)) refl z
      where
        by_name : (o : Option ℕ) → other_name 0 (numbers rs) (numbers fs) ≡ o → named o fs ≡ taken es → Telegram p es × (text ≡ sheet_text es)
        by_name none r y =
            let same : fs ≡ es = cc in
            by_names rs s (q ∙ ap accepted same) (ap (λ (l : List Entry). other_name 0 (numbers rs) (numbers l)) (sym same) ∙ r)
        by_name (some k) r y = let w : ◌≡◌ {A = ℕ} 0 1 = cc in absurd (omega arith)

    by_rows : (o : Rows) → sheet_in text ≡ o → on_sheet p o ≡ taken es → Telegram p es × (text ≡ sheet_text es)
    by_rows (bad k) q z = let w : ◌≡◌ {A = ℕ} 0 1 = cc in absurd (omega arith)
    by_rows (rows rs) q z = by_result rs (sheet_stands text rs q) (write p (values rs)) refl z

    -- "Import accepts only sheets that export writes"
    pub only_sheets : imported p text ≡ taken es → Telegram p es × (text ≡ sheet_text es)
    unfolding imported
    only_sheets e = by_rows (sheet_in text) refl e

  -- ---- export of an imported telegram

  -- its bytes are accepted, with room as the telegram that has this sheet
  pub telegram_back : (text : List ℕ) (es : List Entry) (room : ℕ) → 65536 ≤ room → imported p text ≡ taken es
      → (exported p (bytes_of (bits es)) (bit_count es) room ≡ accepted es) × (sheet_text es ≡ text)
  unfolding exported
  telegram_back text es room h e =
      let s = only_sheets text es e in
      (rw (le-leb 65536 room h) (checks p es s.0 (bit_count es) refl), sym s.1)

  -- so that no two sheets are imported as one telegram, and no two telegrams have one sheet
  pub one_sheet : (a b : List ℕ) (es : List Entry) → imported p a ≡ taken es → imported p b ≡ taken es → a ≡ b
  one_sheet a b es e f = (only_sheets a es e).1 ∙ sym (only_sheets b es f).1

  pub one_telegram : {es fs : List Entry} → Telegram p es → Telegram p fs → sheet_text es ≡ sheet_text fs → es ≡ fs
  one_telegram {es} {fs} t u e =
      let same : taken es ≡ taken fs = sym (sheet_back t) ∙ ap (imported p) e ∙ sheet_back u in
      cc
