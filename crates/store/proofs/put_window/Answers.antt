-- `store::put_window` meets its contract: the window written back differs from what was there in the field alone. Assumes nothing.
use mathlib.Core.Path.{refl, ◌∙◌}
use native.Mathlib.Omega.{arith}
use Rattle.bits.proofs.Windows.{window_is, window_over}
use Rattle.store.proofs.put_window.Goals as goal

pub returns : goal.returns
returns c =
    let w = c in
    let l = w in
    let a = l.args in
    c.store.ensures
    ∙ window_over a.out.now l.lower-k.result a.at a.width (omega arith) (omega arith) (omega arith)
    w.window-w.result a.value c.splice.result _ (omega arith) refl
    (w.window-w.ensures ∙ window_is a.out.now l.lower-k.result (omega arith) (λ i. (w.slice_known-5-1.given i).fits))
    c.splice.ensures
