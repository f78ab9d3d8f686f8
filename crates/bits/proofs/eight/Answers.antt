-- `bits::eight` meets its contract: two windows of four bytes side by side. Assumes nothing.
use mathlib.Core.Path.{◌≡◌, ◌∙◌}
use Prim.Native.Nat.{ℕ, ◌+◌, ◌*◌, ◌^◌, ◌<◌}
use native.Mathlib.Omega.{arith}
use lib.ListN.{get_or}
use Rattle.word64.proofs.Words.{or_shl}
use Rattle.bits.specs.Take.{field_bits}
use Rattle.bits.specs.Bits.{value_of}
use Rattle.bits.proofs.Fields.{field_lt}
use Rattle.bits.proofs.Sight.{fields_joined}
use Rattle.bits.proofs.Windows.{window_is}
use Rattle.bits.proofs.eight.Goals as goal

pub returns : goal.returns
returns c =
    let b = c in
    let s = b.args.s.now in
    let k = b.args.k in
    let byte : (i : ℕ) → get_or s i 0 < 2 ^ 8 = λ i. (c.type_inv.s i).fits in
    let one : k + 5 ≡ k + 4 + 1 = omega arith in
    let two : k + 6 ≡ k + 4 + 2 = omega arith in
    let three : k + 7 ≡ k + 4 + 3 = omega arith in
    let at : 8 * (k + 4) ≡ 8 * k + 32 = omega arith in
    let high = c.window-high.ensures ∙ window_is s k (omega arith) byte in
    let low : c.window-low.result ≡ value_of (field_bits s 32 (8 * k + 32)) =
    c.window-low.ensures ∙ rw (one, two, three, ← at) (window_is s (k + 4) (omega arith) byte) in
    rw (high, low)
    (or_shl 32 32 (value_of (field_bits s 32 (8 * k))) (value_of (field_bits s 32 (8 * k + 32))) (field_lt s 32 (8 * k) (omega arith))
    (field_lt s 32 (8 * k + 32) (omega arith)) (omega arith)
    ∙ fields_joined s (8 * k) 32 32 (omega arith))
