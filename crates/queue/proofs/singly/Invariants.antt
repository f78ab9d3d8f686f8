-- `queue::singly` meets its contract. The loop's invariant: the first i characters of the piece have joined. Assumes nothing.
use lib.ListN.{take}
use Rattle.queue.specs.Waiting.{Joins}
use Rattle.queue.proofs.singly.Given as goal

abbrev pub invariant-loop-c : goal.invariant-loop-c
invariant-loop-c l = Joins (take l.c-index l.piece) l.initial.r l.initial.out l.r l.out
