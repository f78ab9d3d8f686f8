-- The end mark is allowed, and any other value is of the tables just if its packet begins in a row other than 0. Assumes nothing.
use mathlib.Core.Path.{◌∙◌, sym}
use Rattle.states.proofs.Senses.{etcs_row_lem, packet_mark, packet_none, packet_some}
use Rattle.telegram.proofs.verdict.packet.Goals as goal

pub returns-then-v-eq255 : goal.returns-then-v-eq255
returns-then-v-eq255 c = packet_mark c.args.v c.if-v-eq255.true

pub returns-then-etcs-eq0 : goal.returns-then-etcs-eq0
returns-then-etcs-eq0 c =
    let b = c in
    let v = b.args.v in
    packet_none v b.if-v-eq255.false (etcs_row_lem v _ c.etcs.ensures ∙ c.if-etcs-eq0.true)

pub returns : goal.returns
returns c =
    let v = c.args.v in
    packet_some v (λ e. c.if-etcs-eq0.false (sym (etcs_row_lem v _ c.etcs.ensures) ∙ e))
