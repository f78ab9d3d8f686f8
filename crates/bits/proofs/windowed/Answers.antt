-- `bits::windowed` meets its contract: the window is a field of 32 bits, and holds the field wherever that begins. Assumes nothing.
use mathlib.Core.Path.{◌∙◌}
use native.Mathlib.Omega.{arith}
use Rattle.bits.proofs.Windows.{window_is, window_part}
use Rattle.bits.proofs.windowed.Goals as goal

pub returns : goal.returns
returns c =
    let w = c in
    let l = w in
    let s = l.args.s.now in
    let a = l.args in
    c.low_bits.ensures
    ∙ rw (c.window.ensures, window_is s l.lower-k.result (omega arith) (λ i. (w.type_inv.s i).fits))
    (window_part s l.lower-k.result a.at a.width (omega arith) (omega arith) (omega arith))
