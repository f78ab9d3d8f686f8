-- `questions::respond` meets its contract: one law for each letter. Assumes nothing.
use Rattle.queue.proofs.Joining.{joins_as}
use Rattle.questions.proofs.Letters.{reply_none, reply_read, reply_normal, reply_write, reply_other}
use Rattle.questions.proofs.respond.Goals as goal

pub returns-then-line-eq0 : goal.returns-then-line-eq0
returns-then-line-eq0 c = joins_as (reply_none c.args.line.now c.if-line-eq0.true) c.no_question.ensures

pub returns-then-letter-eq114 : goal.returns-then-letter-eq114
returns-then-letter-eq114 c = joins_as (reply_read c.args.line.now c.if-line-eq0.false c.if-letter-eq114.true) c.of_bits.ensures

pub returns-then-letter-eq110 : goal.returns-then-letter-eq110
returns-then-letter-eq110 c = joins_as (reply_normal c.args.line.now c.if-line-eq0.false c.if-letter-eq114.false c.if-letter-eq110.true) c.of_bits-then-letter-eq110.ensures

pub returns-then-letter-eq119 : goal.returns-then-letter-eq119
returns-then-letter-eq119 c = joins_as (reply_write c.args.line.now c.if-line-eq0.false c.if-letter-eq114.false c.if-letter-eq110.false c.if-letter-eq119.true) c.of_values.ensures

pub returns : goal.returns
returns c = joins_as (reply_other c.args.line.now c.if-line-eq0.false c.if-letter-eq114.false c.if-letter-eq110.false c.if-letter-eq119.false) c.no_question-2.ensures
