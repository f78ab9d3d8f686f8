-- `noting::measured` meets its contract: the packet, or the CTCS packet inside it, keeps its L_PACKET. Assumes nothing.
use Rattle.states.proofs.Noting.{long_header, long_packet, long_user}
use Rattle.noting.proofs.measured.Goals as goal

pub returns-in-Header : goal.returns-in-Header
returns-in-Header c = let a = c.args in long_header a.s a.v c.in-Header.is

pub returns-in-Packet : goal.returns-in-Packet
returns-in-Packet c = let a = c.args in long_packet a.s a.v c.in-Packet.is

pub returns-in-User : goal.returns-in-User
returns-in-User c = let a = c.args in long_user a.s a.v c.in-User.is
