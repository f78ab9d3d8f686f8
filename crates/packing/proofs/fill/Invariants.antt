-- `packing::fill` meets its contract. The loop's invariant: the first i bytes of the line stand in front, and behind them what was
-- there. Assumes nothing.
use mathlib.Core.Path.{◌≡◌}
use mathlib.Core.List.{◌++◌}
use lib.ListN.{length, drop}
use Rattle.bits.specs.Bits.{packed}
use Rattle.packing.specs.Packing.{bits_in}
use Rattle.packing.proofs.fill.Given as goal

abbrev pub invariant-loop-i : goal.invariant-loop-i
invariant-loop-i l = (length l.out ≡ length l.initial.out) × (l.out ≡ packed l.i (bits_in l.line) ++ drop l.i l.initial.out)
