-- `packets::ctcs` meets its contract where the identifier is none of the tables': there is no packet. At each other one the kind promises where the packet
-- begins. Assumes nothing.
use Rattle.format.specs.Packets.{ctcs}
use Rattle.packets.proofs.Choice.{ctcs_none}
use Rattle.packets.proofs.ctcs.Goals as goal

pub returns-in_default : goal.returns-in_default
unfolding ctcs
returns-in_default c = ctcs_none c.args.v c.in_default.in_default-own.rest
