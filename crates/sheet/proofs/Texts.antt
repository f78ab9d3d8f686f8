-- The text of a row: how long it is, and that pieces put one behind the other make it. Assumes nothing.
use mathlib.Core.Path.{◌≡◌, sym, ap, ◌∙◌, subst}
use mathlib.Core.Bool.{Bool, true, false, cond}
use mathlib.Core.List.{List, ◌++◌, append_assoc}
use Prim.Native.Nat.{ℕ, ◌+◌, ◌≤◌}
use native.Mathlib.Omega.{arith}
use lib.Dec.{eqb}
use lib.ListN.{length, length-append}
use Rattle.pieces.specs.Numbers.{decimal, sixteen}
use Rattle.pieces.specs.Pieces.{Appended, Grown}
use Rattle.pieces.proofs.Starts.{grows}
use Rattle.pieces.proofs.Decimals.{length_decimal}
use Rattle.pieces.proofs.Sixteens.{length_sixteen}
use Rattle.sheet.specs.Rows.{crlf, label_text, value_text, row_text, field_of, entry_of}
use Rattle.sheet.specs.Steps.{RowPut}
use Rattle.sheet.proofs.Table.{Part}

-- a value takes at most 20 characters
value_few : (k v : ℕ) → length (value_text (field_of k) v) ≤ 20
value_few k v = by (eqb (field_of k).number 35)
  where
    by : (b : Bool) → length (cond b (sixteen v) (decimal v)) ≤ 20
    by true = rw (length_sixteen v) (omega arith)
    by false = length_decimal 20 v

module _ {ls ss : List ℕ} {k : ℕ} (p : Part ls ss k) (v : ℕ) where
  row_long : length (row_text (entry_of k v)) ≡ length (label_text (field_of k)) + length (value_text (field_of k) v) + 2
  unfolding row_text
  row_long =
      length-append (label_text (field_of k) ++ value_text (field_of k) v) crlf
      ∙ ap (λ (n : ℕ). n + 2) (length-append (label_text (field_of k)) (value_text (field_of k) v))

  pub row_few : length (row_text (entry_of k v)) ≤ 43
  row_few = omega (arith, row_long, p.few, value_few k v)

  -- label, value and CRLF, one behind the other
  pub row_put : {before out₁ out₂ after : List ℕ} {at e₁ e₂ end : ℕ} → Appended before at (label_text (field_of k)) e₁ out₁
      → Appended out₁ e₁ (value_text (field_of k) v) e₂ out₂ → Appended out₂ e₂ crlf end after → RowPut k v before at end after
  unfolding row_text
  row_put {after = after} {end = end} a b c base text g h =
      let few = row_few in
      let long = row_long in
      let first = grows g a (omega (arith, few, long)) in
      let one = length-append text (label_text (field_of k)) in
      let second = grows first b (omega (arith, few, long, one)) in
      let two = length-append (text ++ label_text (field_of k)) (value_text (field_of k) v) in
      let third = grows second c (omega (arith, few, long, one, two)) in
      subst (λ (l : List ℕ). Grown base l end after)
      (append_assoc (text ++ label_text (field_of k)) (value_text (field_of k) v) crlf
      ∙ append_assoc text (label_text (field_of k)) (value_text (field_of k) v ++ crlf)
      ∙ ap (λ (l : List ℕ). text ++ l) (sym (append_assoc (label_text (field_of k)) (value_text (field_of k) v) crlf)))
      third
