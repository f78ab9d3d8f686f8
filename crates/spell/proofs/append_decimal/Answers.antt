-- `spell::append_decimal` meets its contract: the piece that is put is the digits. Assumes nothing.
use mathlib.Core.Path.{subst, ◌∙◌}
use mathlib.Core.List.{List}
use Prim.Native.Nat.{ℕ}
use native.Mathlib.Omega.{arith}
use Rattle.pieces.specs.Pieces.{Appended}
use Rattle.pieces.proofs.Starts.{last_part}
use Rattle.spell.proofs.append_decimal.Goals as goal

pub returns : goal.returns
returns c =
    let e = last_part 20 c.digits-first.result _ c.digits-first.ensures.1 ∙ c.digits-first.ensures.2 in
    subst (λ (l : List ℕ). Appended c.args.out.now c.args.at l c.append.result c.append.new.out) e c.append.ensures

pub slice_bounds-append-count : goal.slice_bounds-append-count
slice_bounds-append-count c = omega (arith, c.digits-first.ensures.0)

pub slice_bounds-append-start : goal.slice_bounds-append-start
slice_bounds-append-start c = omega (arith, c.digits-first.ensures.0)

pub slice_bounds-append-end : goal.slice_bounds-append-end
slice_bounds-append-end c = omega (arith, c.digits-first.ensures.0)
