-- `lookback::near` meets its contract: a window of four bytes, moved up. Assumes nothing.
use mathlib.Core.Path.{◌∙◌}
use Prim.Native.Nat.{ℕ, ◌*◌, ◌/◌, ◌%◌, ◌^◌, ◌<◌}
use native.Mathlib.Omega.{arith}
use lib.ListN.{get_or}
use lib.Pow.{mod-mod-pow}
use Rattle.bits.proofs.Windows.{window_is}
use Rattle.lookback.proofs.near.Goals as goal

pub returns : goal.returns
returns c =
    let b = c in
    let s = b.args.s.now in
    let p = b.args.p in
    let byte : (i : ℕ) → get_or s i 0 < 2 ^ 8 = λ i. (c.type_inv.s i).fits in
    mod-mod-pow (c.window.result * 2 ^ (p % 8)) 32 32
    ∙ rw (c.window.ensures ∙ window_is s (p / 8) (omega arith) byte)
