-- `noting::directed` meets its contract: only a packet keeps its Q_DIR, and notes itself among the earlier ones. Assumes nothing.
use mathlib.Core.Logic.{inl, inr}
use Rattle.states.proofs.Noting.{dir_header, dir_packet, dir_user}
use Rattle.noting.proofs.directed.Goals as goal

pub returns-in-Header : goal.returns-in-Header
returns-in-Header c =
    let a = c.args in
    elim c.in-Header.is [ inl header ↦ dir_header a.s a.v header | inr user ↦ dir_user a.s a.v user ]

pub returns-in-Packet : goal.returns-in-Packet
returns-in-Packet c = let a = c.args in dir_packet a.s a.v c.in-Packet.is
