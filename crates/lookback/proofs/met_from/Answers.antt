-- `lookback::met_from` meets its contract: no packet that was passed collides with this one, and those from the bit q on are left. The measure is how many
-- bits are left. Assumes nothing.
use mathlib.Core.Path.{sym, ◌∙◌}
use native.Mathlib.Omega.{arith}
use Rattle.lookback.proofs.Looking.{unlike, looks_end, looks_on}
use Rattle.lookback.proofs.Window.{near_is}
use Rattle.lookback.proofs.met_from.Goals as goal

pub loop-q-init : goal.loop-q-init
loop-q-init c = λ h. h

pub returns-then-like : goal.returns-then-like
returns-then-like c = λ h. unlike

pub returns-then-hop-lt-OUTER_HEAD : goal.returns-then-hop-lt-OUTER_HEAD
returns-then-hop-lt-OUTER_HEAD c = λ h. unlike

pub overflow_add-q : goal.overflow_add-q
overflow_add-q c = omega (arith, c.long-hop.ensures)

pub loop-q-preserved : goal.loop-q-preserved
loop-q-preserved c =
    let at = c in
    let head = near_is _ at.loop-q.q (omega arith) c.near-head.ensures in
    let apart = sym c.like.ensures ∙ c.if-like.false in
    λ h. looks_on (at.loop-q.invariant h) head (omega arith) (omega arith) apart c.long-hop.ensures (omega arith)

pub returns : goal.returns
returns c = λ h e. looks_end (c.loop-q.invariant h) (omega arith)
