-- `noting::misfit` meets its contract: a case for each level. Assumes nothing.
use Rattle.std.proofs.Common.{sym, ◌∙◌, eq-eqb, ne_eqb}
use Rattle.noting.proofs.misfit.Goals as goal

-- the inner packet is longer or shorter than it says
pub returns-then-since-s : goal.returns-then-since-s
returns-then-since-s c = λ l. rw (c.in-User.is, ne_eqb _ _ (λ e. c.if-since-s.true (c.since.ensures ∙ e)))

pub returns-in-Header : goal.returns-in-Header
returns-in-Header c = λ l. rw c.in-Header.is

pub returns-in-Packet : goal.returns-in-Packet
returns-in-Packet c = λ l. rw c.in-Packet.is

-- it is as long as it says
pub returns-else-since-s : goal.returns-else-since-s
returns-else-since-s c = λ l. rw (c.in-User.is, eq-eqb _ _ (sym c.since.ensures ∙ c.if-since-s.false))
