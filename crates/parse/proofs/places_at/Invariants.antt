-- `parse::places_at` meets its contract. The loop's invariant, `Reading`: what is read from at on is what is read behind k
-- places of v, and where that is. Assumes nothing.
use Prim.Native.Nat.{◌+◌, ◌≤◌, max}
use lib.ListN.{length}
use Rattle.pieces.proofs.Sixteens.{Reading}
use Rattle.parse.proofs.places_at.Given as goal

abbrev pub invariant-loop-k : goal.invariant-loop-k
invariant-loop-k l = (l.at + l.k ≤ max l.at (length l.text)) × Reading l.text l.at l.v (l.at + l.k) l.k
