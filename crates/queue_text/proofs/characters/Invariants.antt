-- `queue_text::characters` meets its contract. The loop's invariant: the first bits up to at have joined as characters. Assumes nothing.
use lib.ListN.{take}
use Rattle.bits.specs.Bits.{bits_of}
use Rattle.packing.specs.Packing.{characters}
use Rattle.queue.specs.Waiting.{Joins}
use Rattle.queue_text.proofs.characters.Given as goal

abbrev pub invariant-loop-at : goal.invariant-loop-at
invariant-loop-at l = Joins (characters (take l.at (bits_of l.s))) l.initial.r l.initial.out l.r l.out
