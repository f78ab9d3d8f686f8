-- `lookback::met` meets its contract: before the first head's end none is there, and `met_from_both` sees all. Assumes nothing.
use native.Mathlib.Omega.{arith}
use Rattle.states.proofs.Hopping.{hopping_first}
use Rattle.lookback.proofs.Looking.{unlike, looks_end}
use Rattle.lookback.proofs.met.Goals as goal

pub returns-then-stop-lt-FIRST : goal.returns-then-stop-lt-FIRST
returns-then-stop-lt-FIRST c = λ e. looks_end (hopping_first _ _ _ _) (omega arith)

pub returns-then-stop-gt830 : goal.returns-then-stop-gt830
returns-then-stop-gt830 c = unlike

pub returns-then-s-stop : goal.returns-then-s-stop
returns-then-s-stop c = unlike

pub returns-then-stop-mid : goal.returns-then-stop-mid
returns-then-stop-mid c = unlike

pub returns : goal.returns
returns c = c.met_from_both.ensures
