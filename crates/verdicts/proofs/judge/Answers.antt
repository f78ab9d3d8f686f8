-- `verdicts::judge` meets its contract. Assumes nothing.
use mathlib.Core.Path.{◌∙◌}
use Rattle.group_laws.proofs.Walking.{came_arrives}
use Rattle.group_laws.proofs.Judging.{verdict_single, verdict_arrived}
use Rattle.verdicts.proofs.judge.Goals as goal

pub returns-in-Err : goal.returns-in-Err
returns-in-Err c = verdict_single c.args.s.now c.args.ns.now c.args.room c.if-room-lt-PACKETS.false _ _ (c.in-Err.ensures)

pub returns : goal.returns
returns c = c.verdict.ensures ∙ verdict_arrived c.args.s.now c.args.ns.now c.args.room c.if-room-lt-PACKETS.false (came_arrives _ _ c.in_default.ensures)
