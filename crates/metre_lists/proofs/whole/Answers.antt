-- `metre_lists::whole` meets its contract. Assumes nothing.
use mathlib.Core.Path.{ap, ◌∙◌}
use Prim.Native.Nat.{ℕ}
use native.Mathlib.Omega.{arith}
use Rattle.metre_lists.proofs.Reading.{twenty}
use Rattle.distance.specs.Distance.{whole_metres, in_decimetres}
use Rattle.metre_lists.proofs.whole.Goals as goal

pub overflow_cast-behind : goal.overflow_cast-behind
overflow_cast-behind c = let a = c.args in omega (arith, twenty a.w 0 a.wide (omega arith), c.behind.ensures)

pub returns : goal.returns
returns c =
    let a = c.args in
    c.whole_metres.ensures ∙ ap (λ (v : ℕ). whole_metres a.wide (in_decimetres a.k v)) (c.new-n.ensures ∙ c.behind.ensures)
