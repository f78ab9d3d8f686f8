-- `noting::closes` meets its contract: a case for each level, the inner packet before the outer. Assumes nothing.
use Rattle.std.proofs.Common.{eqb, sym, ap, ◌∙◌}
use Rattle.states.proofs.Noting.{closes_inner, closes_header, closes_packet, closes_outer}
use Rattle.noting.proofs.closes.Goals as goal

pub returns-then-since-s : goal.returns-then-since-s
returns-then-since-s c = λ l. closes_inner c.args.s c.args.at l c.in-User.is (λ e. c.if-since-s.true (c.since-in-User.ensures ∙ e))

pub returns-in-Header : goal.returns-in-Header
returns-in-Header c = λ l. closes_header c.args.s c.args.at l c.in-Header.is

pub returns-in-Packet : goal.returns-in-Packet
returns-in-Packet c = λ l. ap (λ n. eqb n c.args.s.long) c.since.ensures ∙ closes_packet c.args.s c.args.at l c.in-Packet.is

pub returns-else-since-s : goal.returns-else-since-s
returns-else-since-s c =
    λ l. ap (λ n. eqb n c.args.s.long) c.since-in-User-2.ensures
    ∙ closes_outer c.args.s c.args.at l c.in-User.is (sym c.since-in-User.ensures ∙ c.if-since-s.false)
