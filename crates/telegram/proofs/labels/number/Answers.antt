-- `telegram::labels::number` meets its contract: the number of the row's field, or the end mark's. Assumes nothing.
use mathlib.Core.Path.{◌∙◌}
use Rattle.format.proofs.Rows.{number_at}
use Rattle.telegram.proofs.labels.number.Goals as goal

pub returns : goal.returns
returns c =
    let b = c in
    c.named.ensures ∙ rw (b.act.ensures, b.requires.1, number_at b.args.k b.requires.0)
