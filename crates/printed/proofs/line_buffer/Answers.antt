-- `printed::line_buffer` meets its contract: 832 bytes of an input tell all. Assumes nothing.
use native.Mathlib.Omega.{arith}
use Rattle.printed.proofs.Kept.{out_kept}
use Rattle.printed.proofs.line_buffer.Goals as goal

pub returns : goal.returns
returns c = out_kept _ (omega arith)
