-- `packing::last_at` meets its contract. The loop's invariant: v is the number of the j bits that were read. Assumes nothing.
use mathlib.Core.Path.{◌≡◌, refl, ap, ◌∙◌}
use Prim.Native.Nat.{ℕ, ◌+◌, ◌*◌}
use native.Mathlib.Omega.{arith}
use lib.ListN.{drop}
use Rattle.bits.specs.Bits.{value_of, filled}
use Rattle.packing.specs.Packing.{bits_in}
use Rattle.packing.proofs.Lines.{value_again, value_small}
use Rattle.packing.proofs.last_at.Goals as goal

pub loop-j-init : goal.loop-j-init
unfolding value_of filled
loop-j-init c = refl

pub overflow_mul-v : goal.overflow_mul-v
overflow_mul-v c =
    let a = c.args in
    omega (arith, value_small a.line.now a.at c.loop-j.j (omega arith))

pub overflow_add-v : goal.overflow_add-v
overflow_add-v c =
    let a = c.args in
    let l = c.loop-j in
    let e : 2 * l.v + c.bit_at-bit.result ≡ value_of (filled (l.j + 1) (drop a.at (bits_in a.line.now))) =
    rw (l.invariant, c.bit_at-bit.ensures) (value_again (drop a.at (bits_in a.line.now)) l.j) in
    omega (arith, value_small a.line.now a.at (l.j + 1) (omega arith))

pub loop-j-preserved : goal.loop-j-preserved
loop-j-preserved c =
    let a = c.args in
    let l = c.loop-j in
    let e : 2 * l.v + c.bit_at-bit.result ≡ value_of (filled (l.j + 1) (drop a.at (bits_in a.line.now))) =
    rw (l.invariant, c.bit_at-bit.ensures) (value_again (drop a.at (bits_in a.line.now)) l.j) in
    e

pub overflow_cast-result : goal.overflow_cast-result
overflow_cast-result c =
    let a = c.args in
    omega (arith, value_small a.line.now a.at c.loop-j.j (omega arith))

pub returns : goal.returns
returns c =
    let a = c.args in
    let e : c.loop-j.j ≡ 8 = omega arith in
    c.loop-j.invariant ∙ ap (λ (n : ℕ). value_of (filled n (drop a.at (bits_in a.line.now)))) e
