-- `names::append_name` meets its contract: the part of the label that is put is the name. Assumes nothing.
use mathlib.Core.Path.{◌≡◌, subst}
use mathlib.Core.List.{List}
use Prim.Native.Nat.{ℕ}
use native.Mathlib.Omega.{arith}
use lib.ListN.{take}
use Rattle.pieces.specs.Pieces.{Appended}
use Rattle.names.specs.Names.{name_text}
use Rattle.names.proofs.Cut.{cut, put_nameless}
use Rattle.names.proofs.append_name.Goals as goal

pub returns-then-number-gt71 : goal.returns-then-number-gt71
returns-then-number-gt71 c = put_nameless c.args.out.now c.args.at c.args.number (omega arith)

pub name_end-requires : goal.name_end-requires
name_end-requires c = let p = cut c.label-label.result.now c.args.number c.label-label.ensures (omega arith) in p.some_there

pub returns : goal.returns
returns c =
    let p = cut c.label-label.result.now c.args.number c.label-label.ensures (omega arith) in
    let part : take c.name_end.result c.label-label.result.now ≡ name_text c.args.number = rw c.name_end.ensures p.is in
    subst (λ (l : List ℕ). Appended c.args.out.now c.args.at l c.append.result c.append.new.out) part c.append.ensures
