-- `telegram::machine::settled` meets its contract: before a packet's end nothing is tested; at it, the lengths are. Assumes nothing.
use mathlib.Core.Path.{sym, ◌∙◌}
use Rattle.states.proofs.Stepping.{settled_goes, settled_breaks, settled_fresh}
use Rattle.telegram.proofs.machine.settled.Goals as goal

pub returns-then-act-ne-END : goal.returns-then-act-ne-END
returns-then-act-ne-END c = let a = c in settled_goes a.args.s a.requires (λ e. c.if-act-ne-END.true (c.act.ensures ∙ e))

pub returns-then-not-closes : goal.returns-then-not-closes
returns-then-not-closes c =
    let a = c in
    settled_breaks a.args.s a.requires (sym c.act.ensures ∙ c.if-act-ne-END.false) (λ l. sym (c.closes.ensures l) ∙ c.if-not-closes.true)

pub returns : goal.returns
returns c =
    rw c.fresh.ensures
    (settled_fresh c.args.s c.requires (sym c.act.ensures ∙ c.if-act-ne-END.false) (λ l. sym (c.closes.ensures l) ∙ c.if-not-closes.false))
