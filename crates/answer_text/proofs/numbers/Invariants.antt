-- `answer_text::numbers` meets its contract. The loop's invariant: the first i values have joined. Assumes nothing.
use lib.ListN.{take}
use Rattle.queue.specs.Waiting.{Joins}
use Rattle.answer_text.specs.Texts.{spaced}
use Rattle.answer_text.proofs.numbers.Given as goal

abbrev pub invariant-loop-v : goal.invariant-loop-v
invariant-loop-v l = Joins (spaced (take l.v-index l.run)) l.initial.r l.initial.out l.r l.out
