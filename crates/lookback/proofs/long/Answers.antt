-- `lookback::long` meets its contract: thirteen bits above the nine lowest. Assumes nothing.
use mathlib.Core.Path.{refl}
use Rattle.lookback.proofs.long.Goals as goal

pub returns : goal.returns
returns c = refl
