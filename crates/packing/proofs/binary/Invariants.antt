-- `packing::binary` meets its contract. The loop's invariant: the line is of 0 and 1 if the characters before are and what is left of it is. Assumes nothing.
use mathlib.Core.Bool.{◌&&◌}
use mathlib.Core.Path.{◌≡◌}
use lib.ListN.{drop}
use Rattle.packing.specs.Packing.{binary}
use Rattle.packing.proofs.binary.Given as goal

abbrev pub invariant-loop-c : goal.invariant-loop-c
invariant-loop-c l = binary l.line ≡ (l.good && binary (drop l.c-index l.line))
