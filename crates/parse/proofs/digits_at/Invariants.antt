-- `parse::digits_at` meets its contract. The loop's invariant, `Reading`: what is read from at on is what is read from i on behind
-- the digits of v. Assumes nothing.
use Prim.Native.Nat.{◌≤◌, max}
use lib.ListN.{length}
use Rattle.pieces.proofs.Loops.{Reading}
use Rattle.parse.proofs.digits_at.Given as goal

abbrev pub invariant-loop-i : goal.invariant-loop-i
invariant-loop-i l = (l.i ≤ max l.at (length l.text)) × Reading l.text l.at l.v l.i
