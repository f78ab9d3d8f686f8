-- `word64::behind` meets its contract: shifted up, the bits before are gone, and shifted down those after. Assumes nothing.
use mathlib.Core.Path.{◌≡◌, sym, ap, ◌∙◌}
use Prim.Native.Nat.{ℕ, ◌-◌, ◌*◌, ◌/◌, ◌%◌, ◌^◌}
use native.Mathlib.Nat.{div-eq_of_lt, mod-lt}
use native.Mathlib.Omega.{arith}
use Rattle.word64.proofs.Words.{all_gone}
use Rattle.word64.proofs.behind.Goals as goal

pub returns-then-o-gt63 : goal.returns-then-o-gt63
returns-then-o-gt63 c = sym (all_gone c.args.w c.args.o c.args.b (omega arith))

pub returns-then-b-eq0 : goal.returns-then-b-eq0
returns-then-b-eq0 c =
    let x = c.args.w * 2 ^ c.args.o % 2 ^ 64 in
    sym (ap (λ (b : ℕ). x / 2 ^ (64 - b)) c.if-b-eq0.true ∙ div-eq_of_lt (mod-lt _ (omega arith)))

pub returns : goal.returns
returns c =
    let a = c.args in
    let e : 64 - c.lower.result ≡ 64 - a.b = omega arith in
    ap (λ (h : ℕ). a.w * 2 ^ a.o % 2 ^ 64 / 2 ^ h) e
