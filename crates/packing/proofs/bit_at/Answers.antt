-- `packing::bit_at` meets its contract: one law for each way out. Assumes nothing.
use mathlib.Core.Path.{sym, ◌∙◌}
use native.Mathlib.Omega.{arith}
use Rattle.packing.proofs.Lines.{bit_is, bit_none}
use Rattle.packing.proofs.bit_at.Goals as goal

pub returns-then-line-at : goal.returns-then-line-at
returns-then-line-at c = let a = c.args in sym (bit_none a.line.now a.at a.j (omega arith))

pub returns : goal.returns
returns c = let a = c.args in c.bit_of.ensures ∙ sym (bit_is a.line.now a.at a.j)
