-- `packing::pack` meets its contract: one law for each way out. Assumes nothing.
use mathlib.Core.Path.{sym, ◌∙◌}
use native.Mathlib.Omega.{arith}
use Rattle.packing.proofs.Lines.{pack_other, pack_roomless, pack_whole}
use Rattle.packing.proofs.pack.Goals as goal

pub returns-then-not-binary : goal.returns-then-not-binary
returns-then-not-binary c =
    let a = c.args in
    pack_other a.line.now a.out.now (sym c.binary.ensures ∙ c.if-not-binary.true)

pub returns-then-out-k : goal.returns-then-out-k
returns-then-out-k c =
    let a = c.args in
    pack_roomless a.line.now a.out.now
    (sym c.binary.ensures ∙ c.if-not-binary.false) (omega arith)

pub returns : goal.returns
returns c =
    let a = c.args in
    let e = c in
    rw c.fill.ensures (
    pack_whole a.line.now a.out.now (sym e.binary.ensures ∙ e.if-not-binary.false) (omega arith)
    )
