-- `line_text::line_length` meets its contract. Assumes nothing.
use mathlib.Core.Path.{◌∙◌}
use native.Mathlib.Omega.{arith}
use lib.Seq.{length-take-le}
use Rattle.line_text.proofs.Lines.{line_none, line_ended, line_open}
use Rattle.line_text.proofs.line_length.Goals as goal

pub returns-in-10 : goal.returns-in-10
returns-in-10 c = length-take-le _ _ (omega arith) ∙ line_ended c.args.input.now (omega arith)

pub returns-in_default : goal.returns-in_default
returns-in_default c = line_none c.args.input.now (omega arith)

pub returns-in_default-2 : goal.returns-in_default-2
returns-in_default-2 c = line_open c.args.input.now (λ e. omega arith)
