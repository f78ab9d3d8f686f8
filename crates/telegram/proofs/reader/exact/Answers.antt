-- `telegram::reader::exact` meets its contract: the loop goes on from a packet's edge, or from the first field. Assumes nothing.
use mathlib.Core.Path.{refl, ◌∙◌}
use Rattle.passing.proofs.Sweeping.{sweeps_on, sweeps_none}
use Rattle.states.proofs.Scanning.{scans_first, scans_here}
use Rattle.telegram.proofs.reader.exact.Goals as goal
use Rattle.telegram.proofs.reader.exact.Goals.{then-at-gt0, else-at-gt0}

pub walk-requires : goal.walk-requires
walk-requires c =
    let b = c.requires in
    elim c.if-at-gt0.branch [
      | then-at-gt0 w ↦ rw (w.st-is ∙ w.fresh-st.ensures) (sweeps_on b.3 w.if-at-gt0.true refl w.pig.ensures)
      | else-at-gt0 w ↦ rw (w.st-is, sweeps_none b.3 w.if-at-gt0.false) (scans_here (scans_first b.1 b.2 refl w.begin-st.ensures))
    ]
