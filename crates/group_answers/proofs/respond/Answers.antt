-- `group_answers::respond` meets its contract: one law for each answer. Assumes nothing.
use mathlib.Core.Path.{sym}
use lib.Seq.{length-take-le}
use Rattle.queue.proofs.Joining.{joins_as}
use Rattle.group_words.proofs.Callers.{collects_gathered, collects_none}
use Rattle.group_answers.proofs.Texts.{answer_group, answer_none}
use native.Mathlib.Omega.{arith}
use Rattle.group_answers.proofs.respond.Goals as goal

pub slice_bounds-bytes-end : goal.slice_bounds-bytes-end
slice_bounds-bytes-end c = (collects_gathered c.args.line.now _ _ c.collect.result _ _ c.collect.ensures _ _ c.in-Ok.is).inside

pub slice_bounds-tell-end : goal.slice_bounds-tell-end
slice_bounds-tell-end c = sym (length-take-le _ _ (collects_gathered c.args.line.now _ _ c.collect.result _ _ c.collect.ensures _ _ c.in-Ok.is).inside)

pub slice_bounds-ns-end : goal.slice_bounds-ns-end
slice_bounds-ns-end c = (collects_gathered c.args.line.now _ _ c.collect.result _ _ c.collect.ensures _ _ c.in-Ok.is).fewer

pub slice_bounds-tell-end-2 : goal.slice_bounds-tell-end-2
slice_bounds-tell-end-2 c = sym (length-take-le _ _ (collects_gathered c.args.line.now _ _ c.collect.result _ _ c.collect.ensures _ _ c.in-Ok.is).fewer)

pub returns : goal.returns
returns c = joins_as (answer_group (collects_gathered c.args.line.now _ _ c.collect.result _ _ c.collect.ensures _ _ c.in-Ok.is)) c.tell.ensures

pub returns-in_default : goal.returns-in_default
returns-in_default c =
    joins_as (answer_none _ (collects_none c.args.line.now _ _ c.collect.result _ _ c.collect.ensures (omega arith) (omega arith) _ c.in_default.is)) c.no_question.ensures
