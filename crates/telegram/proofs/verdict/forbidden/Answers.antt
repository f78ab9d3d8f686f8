-- The three levels, one at a time: a header's value breaks a header rule, any other a field's. Assumes nothing.
use mathlib.Core.Logic.{inl, inr}
use Rattle.telegram.proofs.verdict.forbidden.Goals as goal

pub returns-in-Header : goal.returns-in-Header
returns-in-Header c = rw c.in-Header.is

pub returns-in-Packet : goal.returns-in-Packet
returns-in-Packet c = elim c.in-Packet.is [ inl packet ↦ rw packet | inr user ↦ rw user ]
