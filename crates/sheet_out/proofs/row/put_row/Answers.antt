-- `sheet_out::row::put_row` meets its contract: label, value and CRLF, one behind the other. Assumes nothing.
use mathlib.Core.Path.{subst}
use mathlib.Core.List.{List}
use Prim.Native.Nat.{ℕ}
use Rattle.pieces.specs.Pieces.{Appended}
use Rattle.sheet.proofs.Table.{own_part}
use Rattle.sheet.proofs.Texts.{row_put}
use Rattle.sheet_out.proofs.row.put_row.Goals as goal

pub returns : goal.returns
returns c =
    let a = c.args in
    let label = subst (λ (l : List ℕ). Appended a.out.now a.at l c.append-label.result c.append-label.new.out) c.label.ensures c.append-label.ensures in
    row_put (own_part a.k c.requires) a.v label c.put_value-value.ensures c.append.ensures
