-- `questions::of_values` meets its contract: the values in hand are the text's, or it has none. Assumes nothing.
use mathlib.Core.Path.{sym}
use native.Mathlib.Omega.{arith}
use lib.Seq.{length-take-le}
use Rattle.queue.proofs.Joining.{joins_as}
use Rattle.questions.proofs.Letters.{count_within, values_some, values_none}
use Rattle.questions.proofs.of_values.Goals as goal

pub slice_bounds-values-end : goal.slice_bounds-values-end
slice_bounds-values-end c = count_within c.args.rest.now _ _ _ (omega arith) c.values_in.ensures _ c.in-Some.is

pub slice_bounds-of_values-end : goal.slice_bounds-of_values-end
slice_bounds-of_values-end c =
    sym (length-take-le _ _ ((count_within c.args.rest.now _ _ _ (omega arith) c.values_in.ensures _ c.in-Some.is)))

pub returns-in-Some : goal.returns-in-Some
returns-in-Some c = joins_as (values_some c.args.rest.now _ _ _ (omega arith) c.values_in.ensures _ c.in-Some.is) c.of_values.ensures

pub returns-in-None : goal.returns-in-None
returns-in-None c = joins_as (values_none c.args.rest.now _ _ _ (omega arith) c.values_in.ensures c.in-None.is) c.no_question.ensures
