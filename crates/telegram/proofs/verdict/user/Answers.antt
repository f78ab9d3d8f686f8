-- A value is of the tables just if its packet begins in a row other than 0. Assumes nothing.
use mathlib.Core.Path.{◌∙◌, sym}
use Rattle.states.proofs.Senses.{ctcs_row_lem, user_none, user_some}
use Rattle.telegram.proofs.verdict.user.Goals as goal

pub returns-then-ctcs-eq0 : goal.returns-then-ctcs-eq0
returns-then-ctcs-eq0 c =
    let v = c.args.v in
    user_none v (ctcs_row_lem v _ c.ctcs.ensures ∙ c.if-ctcs-eq0.true)

pub returns : goal.returns
returns c =
    let v = c.args.v in
    user_some v (λ e. c.if-ctcs-eq0.false (sym (ctcs_row_lem v _ c.ctcs.ensures) ∙ e))
