-- `telegram::earlier::directing` meets its contract: the code of Q_DIR, in a packet and not in the CTCS packet inside one. Assumes nothing.
use mathlib.Core.Logic.{inl, inr}
use mathlib.Core.Path.{◌∙◌, sym}
use Rattle.states.proofs.Directions.{directs_not, directs_by}
use Rattle.telegram.proofs.earlier.directing.Goals as goal

pub returns-then-code-ne-DIRECTION : goal.returns-then-code-ne-DIRECTION
returns-then-code-ne-DIRECTION c = directs_not c.args.s (λ e. c.if-code-ne-DIRECTION.true (c.code.ensures ∙ e))

pub returns-in-Packet : goal.returns-in-Packet
returns-in-Packet c = directs_by c.args.s (sym c.code.ensures ∙ c.if-code-ne-DIRECTION.false) c.in-Packet.is

pub returns-in-Header : goal.returns-in-Header
returns-in-Header c =
    let code = sym c.code.ensures ∙ c.if-code-ne-DIRECTION.false in
    elim c.in-Header.is [ inl header ↦ directs_by c.args.s code header | inr user ↦ directs_by c.args.s code user ]
