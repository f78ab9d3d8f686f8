-- `bits::joined` meets its contract. The loop's invariant: v is the number of the got bits from at on.
-- The measure is how many are left. Assumes nothing.
use mathlib.Core.Path.{◌≡◌, refl}
use Prim.Native.Nat.{◌+◌, ◌/◌}
use native.Mathlib.Omega.{arith}
use Rattle.bits.specs.Bits.{value_of}
use Rattle.bits.proofs.Loops.{take_again}
use Rattle.bits.proofs.joined.Goals as goal

pub loop-got-init : goal.loop-got-init
unfolding value_of
loop-got-init c = (omega arith, refl)

pub overflow_cast-s : goal.overflow_cast-s
overflow_cast-s c = omega (arith, c.type_inv.s ((c.args.at + c.loop-got.got) / 8))

pub loop-got-preserved : goal.loop-got-preserved
loop-got-preserved c =
    let a = c.args in
    let l = c.loop-got in (
      omega arith,
      take_again a.s.now a.at l.got c.lower-t.result _ l.v c.low_bits.result
          l.invariant.1 c.low_bits.ensures (omega arith) (omega arith) (omega arith),
    )

pub returns : goal.returns
returns c =
    let e : c.loop-got.got ≡ c.args.width = omega arith in rw e at c.loop-got.invariant.1
