-- `sheet_in::row::field_at` meets its contract. The loop's invariant: no field before k has its label there. Assumes nothing.
use mathlib.Core.Path.{◌≡◌, refl, sym, ap, ◌∙◌}
use mathlib.Core.List.{List}
use Prim.Native.Nat.{ℕ}
use native.Mathlib.Omega.{arith}
use lib.ListN.{drop}
use Rattle.pieces.specs.Pieces.{begins}
use Rattle.sheet.specs.Rows.{label_text, field_of}
use Rattle.sheet.proofs.Fronts.{sought_on, found_at, found_none}
use Rattle.sheet_in.proofs.row.field_at.Goals as goal

pub loop-k-init : goal.loop-k-init
loop-k-init c = (omega arith, refl)

pub returns-then-begins : goal.returns-then-begins
returns-then-begins c =
    let stands : begins (label_text (field_of c.loop-k.k)) (drop c.args.at c.args.text.now) ≡ c.begins.result =
    ap (λ (x : List ℕ). begins x (drop c.args.at c.args.text.now)) (sym c.label.ensures) ∙ sym c.begins.ensures in
    found_at _ c.loop-k.k (omega arith) c.loop-k.invariant (stands ∙ c.if-begins.true)

pub loop-k-preserved : goal.loop-k-preserved
loop-k-preserved c =
    let stands : begins (label_text (field_of c.loop-k.k)) (drop c.args.at c.args.text.now) ≡ c.begins.result =
    ap (λ (x : List ℕ). begins x (drop c.args.at c.args.text.now)) (sym c.label.ensures) ∙ sym c.begins.ensures in
    sought_on _ c.loop-k.k (omega arith) c.loop-k.invariant (stands ∙ c.if-begins.false)

pub returns : goal.returns
returns c = found_none _ c.loop-k.k (omega arith) c.loop-k.invariant
