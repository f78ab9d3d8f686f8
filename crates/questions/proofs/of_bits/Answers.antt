-- `questions::of_bits` meets its contract: nothing, a space and bits, or something else. Assumes nothing.
use Rattle.queue.proofs.Joining.{joins_as}
use Rattle.questions.proofs.Letters.{bits_none, bits_some, bits_other}
use Rattle.questions.proofs.of_bits.Goals as goal

pub returns-then-rest-eq0 : goal.returns-then-rest-eq0
returns-then-rest-eq0 c = joins_as (bits_none c.args.normal c.args.rest.now c.if-rest-eq0.true) c.of_bits.ensures

pub returns-then-rest-eq32 : goal.returns-then-rest-eq32
returns-then-rest-eq32 c = joins_as (bits_some c.args.normal c.args.rest.now c.if-rest-eq0.false c.if-rest-eq32.true) c.of_bits-then-rest-eq32.ensures

pub returns : goal.returns
returns c = joins_as (bits_other c.args.normal c.args.rest.now c.if-rest-eq0.false c.if-rest-eq32.false) c.no_question.ensures
