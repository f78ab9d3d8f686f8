-- `lookback::like` meets its contract: the test itself. Assumes nothing.
use mathlib.Core.Path.{refl}
use Rattle.lookback.proofs.like.Goals as goal

pub returns : goal.returns
returns c = refl
