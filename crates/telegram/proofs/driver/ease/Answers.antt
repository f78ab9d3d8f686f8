-- `telegram::driver::ease` meets its contract. Assumes nothing.
use mathlib.Core.Path.{◌∙◌, sym}
use native.Mathlib.Numerals.{add-one}
use native.Mathlib.Omega.{arith}
use borrow.Author.Rules.{rules}
use Rattle.format.proofs.Rows.{next_in}
use Rattle.states.proofs.Advancing.{advances_next, advances_turned, advances_ending}
use Rattle.states.proofs.Idling.{slight_so}
use Rattle.telegram.proofs.driver.ease.Goals as goal

pub rest-requires : goal.rest-requires
rest-requires c = c.requires.inside

pub act-a-requires : goal.act-a-requires
act-a-requires c = c.requires.inside

pub returns-then-a-lt-SEND : goal.returns-then-a-lt-SEND
returns-then-a-lt-SEND c = search rules

-- a field that steers nothing

pub overflow_add-k : goal.overflow_add-k
overflow_add-k c = omega (arith, c.requires.inside)

pub act-requires : goal.act-requires
act-requires c =
    let z = c.if-a-eq-SEND.true in
    rw add-one (next_in c.args.t.node c.requires.inside (omega (arith, c.act-a.ensures)))

pub overflow_add-result : goal.overflow_add-result
overflow_add-result c = omega (arith, c.requires.inside)

pub returns-then-act-ne-END : goal.returns-then-act-ne-END
returns-then-act-ne-END c =
    let z = c.if-a-lt-SEND.false in (
      slight_so c.args.t.node c.args.v c.requires.inside _ c.rest.ensures (omega (arith, c.act-a.ensures)) (sym c.slight.ensures ∙ c.if-not-slight.false),
      advances_next _ _ c.requires (sym c.act-a.ensures ∙ c.if-a-eq-SEND.true) (λ e. c.if-act-ne-END.true (c.act.ensures ∙ e)),
      λ e. c.if-act-ne-END.true (c.act.ensures ∙ e),
    )

-- any other

pub moved-requires : goal.moved-requires
moved-requires c = let z = c.if-a-lt-SEND.false in (c.requires.inside, omega (arith, c.act-a.ensures))

pub turned-u-requires : goal.turned-u-requires
turned-u-requires c = c.moved.ensures.inside

pub act-requires-2 : goal.act-requires-2
act-requires-2 c = c.turned-u.ensures.inside

pub returns-then-act-ne-END-2 : goal.returns-then-act-ne-END-2
returns-then-act-ne-END-2 c =
    let z = c.if-a-lt-SEND.false in (
      slight_so c.args.t.node c.args.v c.requires.inside _ c.rest.ensures (omega (arith, c.act-a.ensures)) (sym c.slight.ensures ∙ c.if-not-slight.false),
      advances_turned _ _ c.requires _ _ (omega (arith, c.act-a.ensures)) c.moved.ensures c.turned-u.ensures (λ e. c.if-act-ne-END-2.true (c.act-2.ensures ∙ e)),
      λ e. c.if-act-ne-END-2.true (c.act-2.ensures ∙ e),
    )

pub back-requires : goal.back-requires
back-requires c = (c.turned-u.ensures.inside, sym c.act-2.ensures ∙ c.if-act-ne-END-2.false)

pub returns-then-back-eq0 : goal.returns-then-back-eq0
returns-then-back-eq0 c =
    let z = c.if-a-lt-SEND.false in
    let e = sym c.act-2.ensures ∙ c.if-act-ne-END-2.false in (
      slight_so c.args.t.node c.args.v c.requires.inside _ c.rest.ensures (omega (arith, c.act-a.ensures)) (sym c.slight.ensures ∙ c.if-not-slight.false),
      advances_ending _ _ c.requires _ _ (omega (arith, c.act-a.ensures)) c.moved.ensures c.turned-u.ensures e (sym c.back.ensures ∙ c.if-back-eq0.true),
      e,
    )
