-- `pieces::begins` meets its contract. The loop's invariant: the text goes on with the piece if from j on it does with what is left of the
-- piece. Assumes nothing.
use mathlib.Core.Path.{◌≡◌}
use lib.ListN.{drop}
use Rattle.pieces.specs.Pieces.{begins}
use Rattle.pieces.proofs.begins.Given as goal

abbrev pub invariant-loop-c : goal.invariant-loop-c
invariant-loop-c l = begins l.piece (drop l.at l.text) ≡ begins (drop l.c-index l.piece) (drop l.j l.text)
