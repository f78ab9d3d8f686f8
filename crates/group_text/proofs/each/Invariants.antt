-- `group_text::each` meets its contract: the first i packets have joined. Assumes nothing.
use Rattle.queue.specs.Waiting.{Joins}
use Rattle.group_text.specs.Texts.{packet_texts}
use Rattle.group_text.proofs.each.Given as goal

abbrev pub invariant-loop-i : goal.invariant-loop-i
invariant-loop-i l = Joins (packet_texts l.i l.pigs l.numbers) l.initial.r l.initial.out l.r l.out
