-- `bits::joined` meets its contract. The loop's invariant: v is the number of the got bits from at on.
-- The measure is how many are left. Assumes nothing.
use mathlib.Core.Path.{◌≡◌}
use Prim.Native.Nat.{◌≤◌, ◌-◌}
use Rattle.bits.specs.Bits.{value_of}
use Rattle.bits.specs.Take.{field_bits}
use Rattle.bits.proofs.joined.Given as goal

abbrev pub invariant-loop-got : goal.invariant-loop-got
invariant-loop-got l = (l.got ≤ l.width) × (l.v ≡ value_of (field_bits l.s l.got l.at))

abbrev pub decreases-loop-got : goal.decreases-loop-got
decreases-loop-got l = l.width - l.got
