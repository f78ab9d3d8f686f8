-- `packing::fill` meets its contract. The loop's invariant: the first i bytes of the line stand in front, and behind them what was
-- there. Assumes nothing.
use mathlib.Core.Path.{◌≡◌, refl, ap, ◌∙◌}
use mathlib.Core.List.{◌++◌}
use Prim.Native.Nat.{ℕ}
use native.Mathlib.Omega.{arith}
use lib.ListN.{drop, length-set}
use Rattle.bits.specs.Bits.{packed}
use Rattle.packing.specs.Packing.{bits_in}
use Rattle.packing.proofs.Lines.{store_again, stored_all}
use Rattle.packing.proofs.fill.Goals as goal

pub loop-i-init : goal.loop-i-init
unfolding packed
loop-i-init c = (refl, refl)

pub loop-i-preserved : goal.loop-i-preserved
loop-i-preserved c =
    let a = c.args in
    let l = c.loop-i in (
      simp length-set l.invariant.0,
      rw (l.invariant.1, c.byte_at.ensures) (store_again (bits_in a.line.now) a.out.now l.i (omega arith)),
    )

pub shape_of-out : goal.shape_of-out
shape_of-out c = c.loop-i.invariant.0

pub returns : goal.returns
returns c =
    let a = c.args in
    let e : c.loop-i.i ≡ a.k = omega arith in
    c.loop-i.invariant.1 ∙ ap (λ (n : ℕ). packed n (bits_in a.line.now) ++ drop n a.out.now) e
    ∙ stored_all a.line.now a.out.now a.k (omega arith)
