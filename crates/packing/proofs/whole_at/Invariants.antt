-- `packing::whole_at` meets its contract. The loop's invariant: v is the number of the j bits that were read. Assumes nothing.
use mathlib.Core.Path.{◌≡◌}
use lib.ListN.{drop}
use Rattle.bits.specs.Bits.{value_of, filled}
use Rattle.packing.specs.Packing.{bits_in}
use Rattle.packing.proofs.whole_at.Given as goal

abbrev pub invariant-loop-j : goal.invariant-loop-j
invariant-loop-j l = l.v ≡ value_of (filled l.j (drop l.at (bits_in l.line)))
