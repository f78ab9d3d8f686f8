-- `answers::line_buffer` meets its contract: 831 characters of a line tell its answer. Assumes nothing.
use native.Mathlib.Omega.{arith}
use Rattle.answers.proofs.Kept.{kept_responds}
use Rattle.answers.proofs.line_buffer.Goals as goal

pub returns : goal.returns
returns c = kept_responds _ (omega arith)
