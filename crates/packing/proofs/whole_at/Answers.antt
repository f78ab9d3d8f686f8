-- `packing::whole_at` meets its contract. The loop's invariant: v is the number of the j bits that were read. Assumes nothing.
use mathlib.Core.Path.{◌≡◌, refl, ap, ◌∙◌}
use Prim.Native.Nat.{ℕ, ◌+◌, ◌*◌}
use native.Mathlib.Omega.{arith}
use lib.ListN.{drop}
use Rattle.bits.specs.Bits.{value_of, filled}
use Rattle.packing.specs.Packing.{bits_in}
use Rattle.packing.proofs.Lines.{bit_is, value_again, value_small}
use Rattle.packing.proofs.whole_at.Goals as goal

pub loop-j-init : goal.loop-j-init
unfolding value_of filled
loop-j-init c = refl

pub overflow_mul-v : goal.overflow_mul-v
overflow_mul-v c =
    let a = c.args in
    omega (arith, value_small a.line.now a.at c.loop-j.j (omega arith))

pub overflow_add-v : goal.overflow_add-v
overflow_add-v c =
    let a = c.args in
    let l = c.loop-j in
    let bs = drop a.at (bits_in a.line.now) in
    let e : 2 * l.v + c.bit_of-bit.result ≡ value_of (filled (l.j + 1) bs) =
    rw (l.invariant, c.bit_of-bit.ensures, ← (bit_is a.line.now a.at l.j)) (value_again bs l.j) in
    omega (arith, value_small a.line.now a.at (l.j + 1) (omega arith))

pub loop-j-preserved : goal.loop-j-preserved
loop-j-preserved c =
    let a = c.args in
    let l = c.loop-j in
    let bs = drop a.at (bits_in a.line.now) in
    let e : 2 * l.v + c.bit_of-bit.result ≡ value_of (filled (l.j + 1) bs) =
    rw (l.invariant, c.bit_of-bit.ensures, ← (bit_is a.line.now a.at l.j)) (value_again bs l.j) in
    e

pub overflow_cast-result : goal.overflow_cast-result
overflow_cast-result c =
    let a = c.args in
    omega (arith, value_small a.line.now a.at c.loop-j.j (omega arith))

pub returns : goal.returns
returns c =
    let a = c.args in
    let e : c.loop-j.j ≡ 8 = omega arith in
    c.loop-j.invariant ∙ ap (λ (n : ℕ). value_of (filled n (drop a.at (bits_in a.line.now)))) e
