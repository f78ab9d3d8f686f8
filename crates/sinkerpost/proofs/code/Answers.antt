-- `sinkerpost::code` meets its contract: a number is at most 13 and a place at most 830, so nothing is lost. Assumes nothing.
use Rattle.std.specs.Prelude.{Err}
use mathlib.Core.Path.{◌≡◌, sym, ap, subst, ◌∙◌}
use Prim.Native.Nat.{ℕ, ◌≤◌, ◌*◌, ◌+◌}
use native.Mathlib.Omega.{arith}
use Rattle.format.specs.Refusals.{code_of, Answer}
use Rattle.format.specs.declared.Refusal.{Refusal}
use Rattle.format.proofs.Numbers.{number_in}
use Rattle.sinkerpost.specs.Codes.{Placed}
use Rattle.sinkerpost.proofs.code.Goals as goal

placed : (a : Answer) (r : Refusal) → a ≡ Err r → Placed a → r.place ≤ 830
placed a r e h = subst Placed e h

pub overflow_mul-result : goal.overflow_mul-result
overflow_mul-result c =
    let k = number_in c.in-Err.r.kind in
    omega (arith, c.number.ensures)

pub overflow_add-result : goal.overflow_add-result
overflow_add-result c =
    let k = number_in c.in-Err.r.kind in
    let p = placed c.args.a c.in-Err.r c.in-Err.is c.requires in
    omega (arith, c.number.ensures)

pub returns-in-Err : goal.returns-in-Err
returns-in-Err c =
    let r = c.in-Err.r in
    ap (λ (n : ℕ). 1024 * n + r.place) c.number.ensures ∙ sym (ap code_of c.in-Err.is)
