-- `telegram::earlier::packet_meets` meets its contract: a packet begins just where the row is an end. Assumes nothing.
use mathlib.Core.Path.{◌∙◌}
use Rattle.states.proofs.Walking.{begun_at}
use Rattle.telegram.proofs.earlier.packet_meets.Goals as goal

pub act-requires : goal.act-requires
act-requires c = c.requires.inside

pub returns : goal.returns
returns c = c.row_meets.ensures ∙ rw c.act.ensures (begun_at c.args.t c.requires _)
