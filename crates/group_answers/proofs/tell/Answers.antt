-- `group_answers::tell` meets its contract: the text of the packets, or of the refusal. Assumes nothing.
use Rattle.queue.proofs.Joining.{joins_as}
use Rattle.group_answers.proofs.Texts.{packets_are, fault_is}
use native.Mathlib.Omega.{arith}
use Rattle.group_answers.proofs.tell.Goals as goal

pub returns-in-Ok : goal.returns-in-Ok
returns-in-Ok c = joins_as (packets_are c.message.ensures (omega arith) (omega arith) _ c.in-Ok.is) c.packets.ensures

pub returns-in-Err : goal.returns-in-Err
returns-in-Err c = joins_as (fault_is c.message.ensures (omega arith) (omega arith) _ c.number.result c.in-Err.is c.number.ensures) c.fault.ensures
