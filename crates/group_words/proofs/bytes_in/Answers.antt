-- `group_words::bytes_in` meets its contract: one law for each answer. Assumes nothing.
use native.Mathlib.Omega.{arith}
use Rattle.group_words.proofs.Counts.{sized_some, sized_none}
use Rattle.group_words.proofs.bytes_in.Goals as goal

pub returns : goal.returns
returns c = sized_some c.args.word.now _ c.telegram.result _ c.telegram.ensures _ _ c.in_ok-k.ensures.value

pub returns-in_err-k : goal.returns-in_err-k
returns-in_err-k c = rw c.from_residual.ensures (sized_none c.args.word.now _ c.telegram.result _ c.telegram.ensures (omega arith) c.in_err-k.ensures.value)
