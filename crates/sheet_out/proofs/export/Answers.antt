-- `sheet_out::export` meets its contract: room, then the reader's answer; only what it accepted is written. Assumes nothing.
use Rattle.std.proofs.lemmas.Result.{err_from_is_err_and}
use mathlib.Core.Path.{sym}
use Prim.Native.Nat.{◌≤◌}
use native.Mathlib.Omega.{arith}
use lib.Seq.{length-take-le}
use Rattle.sheet.proofs.Making.{exports_roomless, exports_refused, few_read, listing, exports_written}
use Rattle.sheet_out.proofs.export.Goals as goal

pub returns-then-text-lt65536 : goal.returns-then-text-lt65536
returns-then-text-lt65536 c = rw (c.into.ensures, c.at_once.ensures) (exports_roomless _ _ _ (omega arith))

pub slice_bounds-values-end : goal.slice_bounds-values-end
slice_bounds-values-end c =
    let few : c.in_ok-count.count ≤ 830 = let r = c in
    let a = r.args in
    few_read a.s.now a.n a.text.now r.read.ensures (omega arith) c.in_ok-count.was in
    omega (arith, few)

pub slice_bounds-sheet-end : goal.slice_bounds-sheet-end
slice_bounds-sheet-end c =
    let few : c.in_ok-count.count ≤ 830 = let r = c in
    let a = r.args in
    few_read a.s.now a.n a.text.now r.read.ensures (omega arith) c.in_ok-count.was in
    sym (length-take-le _ _ (omega (arith, few)))

pub sheet-requires : goal.sheet-requires
sheet-requires c = listing _ _ _ c.read.ensures (omega arith) c.in_ok-count.was (omega arith)

pub returns-in_err-count : goal.returns-in_err-count
returns-in_err-count c =
    let p = err_from_is_err_and c.from_residual.result c.from_residual.ensures.1 in
    rw (p.1, p.2) (exports_refused _ _ _ c.read.ensures (omega arith) c.in_err-count.was (omega arith))

pub returns : goal.returns
returns c = exports_written _ _ _ c.read.ensures (omega arith) c.in_ok-count.was (omega arith) c.sheet.ensures
