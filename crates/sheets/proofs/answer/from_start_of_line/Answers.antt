-- `sheets::answer::from_start_of_line` meets its contract: what was read has the answer of the input. Assumes nothing.
use mathlib.Core.Path.{sym}
use lib.Seq.{length-take-le}
use Rattle.sheets.proofs.Held.{out_held}
use Rattle.sheets.proofs.answer.from_start_of_line.Goals as goal

pub slice_bounds-from_line-end : goal.slice_bounds-from_line-end
slice_bounds-from_line-end c = sym (length-take-le _ _ c.requires.1)

pub returns : goal.returns
returns c =
    let s = c in
    λ input holds. out_held s.args.read.now s.args.n input s.requires.0 s.requires.2 holds c.from_line.ensures
