-- `headers::same_from` meets its contract: what was passed is the same in both. The measure is how many bits are left. Assumes nothing.
use mathlib.Core.Path.{sym, ◌∙◌}
use Prim.Native.Nat.{◌+◌, ◌≤◌}
use Rattle.headers.proofs.Same.{pairing_first, pairing_on, pairing_fails, pairing_end}
use native.Mathlib.Omega.{arith}
use Rattle.headers.proofs.same_from.Goals as goal

pub loop-at-init : goal.loop-at-init
loop-at-init c = pairing_first _ _ _

pub returns-then-field : goal.returns-then-field
returns-then-field c = let hw : c.loop-at.at + c.min-w.result ≤ c.args.n = omega (arith, c.min-w.ensures, c.loop-at-test.true) in let few : c.min-w.result ≤ 64 = omega (arith, c.min-w.ensures) in pairing_fails c.loop-at.invariant c.requires.0 c.requires.1 c.min-w.result hw few (λ q. c.if-field.true (c.field.ensures ∙ q ∙ sym c.field-in-loop-at.ensures))

pub overflow_add-at : goal.overflow_add-at
overflow_add-at c = omega (arith, c.min-w.ensures, c.loop-at-test.true)

pub loop-at-smaller : goal.loop-at-smaller
loop-at-smaller c = omega (arith, c.min-w.ensures, c.loop-at-test.true)

pub loop-at-preserved : goal.loop-at-preserved
loop-at-preserved c = let hw : c.loop-at.at + c.min-w.result ≤ c.args.n = omega (arith, c.min-w.ensures, c.loop-at-test.true) in let few : c.min-w.result ≤ 64 = omega (arith, c.min-w.ensures) in pairing_on c.loop-at.invariant c.requires.0 c.requires.1 c.min-w.result hw few (sym c.field.ensures ∙ omega (arith, c.if-field.false) ∙ c.field-in-loop-at.ensures)

pub returns : goal.returns
returns c = pairing_end c.loop-at.invariant c.requires.0 c.requires.1 c.loop-at-test.false
