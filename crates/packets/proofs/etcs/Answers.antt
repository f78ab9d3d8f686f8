-- `packets::etcs` meets its contract where the identifier is none of the tables': there is no packet. At each other one the kind promises where the packet
-- begins. Assumes nothing.
use Rattle.format.specs.Packets.{etcs}
use Rattle.packets.proofs.Choice.{etcs_none}
use Rattle.packets.proofs.etcs.Goals as goal

pub returns-in_default : goal.returns-in_default
unfolding etcs
returns-in_default c = etcs_none c.args.v c.in_default.in_default-own.rest
