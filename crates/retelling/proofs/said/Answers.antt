-- `retelling::said` meets its contract. Assumes nothing.
use mathlib.Core.Path.{sym, ◌∙◌}
use native.Mathlib.Omega.{arith}
use Rattle.store.proofs.Laid.{laid_is}
use Rattle.retelling.proofs.said.Goals as goal

pub returns : goal.returns
returns c = let a = c.args in c.lay.ensures ∙ sym (laid_is a.out.now a.q 2 1 (omega arith) (omega arith))
