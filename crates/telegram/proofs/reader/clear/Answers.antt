-- `telegram::reader::clear` meets its contract: the bits from n on are the low bits of the last byte. Assumes nothing.
use mathlib.Core.Path.{◌≡◌, ◌∙◌}
use Prim.Native.Nat.{ℕ, ◌*◌, ◌-◌, ◌%◌, ◌^◌, ◌<◌}
use native.Mathlib.Nat.{one-mul}
use native.Mathlib.Omega.{arith}
use lib.ListN.{length}
use lib.Pow.{pow_pos, shl_exact}
use Rattle.states.proofs.Checking.{last_bits}
use Rattle.telegram.proofs.reader.clear.Goals as goal

shifted : (u : ℕ) → u < 8 → 1 * 2 ^ u % 2 ^ 8 ≡ 2 ^ u
shifted u h = shl_exact {a = 1} 1 u 8 (omega arith) (omega arith) ∙ one-mul (2 ^ u)

pub nonzero_rem-result : goal.nonzero_rem-result
nonzero_rem-result c =
    let a = c.args in
    let u = 8 * length a.s.now - a.n in
    rw (shifted u (omega (arith, c.requires.2))) (pow_pos u)

pub returns : goal.returns
returns c =
    let a = c.args in
    let s = a.s.now in
    let u = 8 * length s - a.n in
    rw (
      shifted u (omega (arith, c.requires.2)),
      last_bits s a.n u (omega (arith, c.requires.2)) (omega (arith, c.requires.2)) (omega (arith, c.requires.2)),
    )
