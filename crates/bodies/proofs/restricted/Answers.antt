-- `bodies::restricted` meets its contract. Assumes nothing.
use mathlib.Core.Path.{sym, ap, ◌∙◌}
use Prim.Native.Nat.{◌+◌, ◌*◌}
use native.Mathlib.Omega.{arith}
use Rattle.bits.proofs.Fields.{taken}
use Rattle.hops.specs.Hops.{counted}
use Rattle.bodies.proofs.Tests.{sized_many, restricted_lacking, restricted_short, restricted_taken}
use Rattle.bodies.proofs.restricted.Goals as goal

pub returns-in_err-c : goal.returns-in_err-c
returns-in_err-c c =
    let a = c.args in
    c.from_residual.ensures ∙ ap counted (restricted_lacking a.s.now a.n a.start.at a.long (sym c.skip.ensures ∙ c.in_err-c.was))

pub returns-in_err-times : goal.returns-in_err-times
returns-in_err-times c =
    let a = c.args in
    c.from_residual-in_err-times.ensures
    ∙ ap counted (restricted_short a.s.now a.n a.start.at a.long (sym c.skip.ensures ∙ c.in_ok-c.was) (sym c.take.ensures ∙ c.in_err-times.was))

pub overflow_mul-k : goal.overflow_mul-k
overflow_mul-k c = let f = taken c.args.s.now c.args.n 5 _ _ _ (sym c.take.ensures ∙ c.in_ok-times.was) in omega (arith, f.small)

pub overflow_add-k : goal.overflow_add-k
overflow_add-k c = let f = taken c.args.s.now c.args.n 5 _ _ _ (sym c.take.ensures ∙ c.in_ok-times.was) in omega (arith, f.small)

pub overflow_mul-k-2 : goal.overflow_mul-k-2
overflow_mul-k-2 c = let f = taken c.args.s.now c.args.n 5 _ _ _ (sym c.take.ensures ∙ c.in_ok-times.was) in omega (arith, f.small)

pub overflow_add-k-2 : goal.overflow_add-k-2
overflow_add-k-2 c = let f = taken c.args.s.now c.args.n 5 _ _ _ (sym c.take.ensures ∙ c.in_ok-times.was) in omega (arith, f.small)

pub returns : goal.returns
returns c =
    let a = c.args in
    let k = c.in_ok-times.times in
    c.sized.ensures
    ∙ sized_many (13 + 4 * k) (omega arith) a.long (107 + 38 * k)
    ∙ ap counted (restricted_taken a.s.now a.n a.start.at a.long (sym c.skip.ensures ∙ c.in_ok-c.was) (sym c.take.ensures ∙ c.in_ok-times.was))
