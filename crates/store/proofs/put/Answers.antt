-- `store::put` meets its contract: each test answers one of the definition's, and both ways of writing leave the same bits. Assumes nothing.
use mathlib.Core.Path.{◌≡◌, sym, ◌∙◌}
use mathlib.Core.Bool.{true}
use Prim.Native.Nat.{◌^◌}
use native.Mathlib.Omega.{arith}
use borrow.Author.Tests.{ltb-true}
use lib.Dec.{ltb}
use lib.ListN.{length}
use Rattle.word64.proofs.Words.{narrow}
use Rattle.bits.proofs.Bytes.{below_known}
use Rattle.bits.proofs.Fields.{put_wide, put_past, put_large, put_whole}
use Rattle.store.proofs.put.Goals as goal

pub returns-then-width-gt64 : goal.returns-then-width-gt64
returns-then-width-gt64 c = let a = c.args in put_wide a.out.now a.at a.width a.value c.if-width-gt64.true

pub returns-then-out-at : goal.returns-then-out-at
returns-then-out-at c =
    let a = c.args in
    put_past a.out.now a.at a.width a.value (omega arith) (omega arith)

pub returns-then-not-fits : goal.returns-then-not-fits
returns-then-not-fits c =
    let a = c.args in
    put_large a.out.now a.at a.width a.value (omega arith) (omega arith)
    (sym c.fits.ensures ∙ c.if-not-fits.true)

pub put_window-requires : goal.put_window-requires
put_window-requires c =
    let a = c.args in
    let small : ltb a.value (2 ^ a.width) ≡ true = sym c.fits.ensures ∙ c.if-not-fits.false in
    let a = c.args in
    let n = narrow (length a.out.now) a.width (sym c.wide.ensures ∙ c.if-wide.false) in
    (n.0, n.1, omega arith, ltb-true _ _ (small))

pub returns-then-wide : goal.returns-then-wide
returns-then-wide c =
    let a = c.args in
    let small : ltb a.value (2 ^ a.width) ≡ true = sym c.fits.ensures ∙ c.if-not-fits.false in
    let w = c in
    let a = w.args in
    let t = c.put_bytes.new.out in
    put_whole a.out.now a.at a.width a.value (omega arith) (omega arith) (small) t
    (below_known 256 t (λ i. (c.type_inv.out i).fits)) c.put_bytes.ensures

pub returns-else-wide : goal.returns-else-wide
returns-else-wide c =
    let a = c.args in
    let small : ltb a.value (2 ^ a.width) ≡ true = sym c.fits.ensures ∙ c.if-not-fits.false in
    let w = c in
    let a = w.args in
    let t = c.put_window.new.out in
    put_whole a.out.now a.at a.width a.value (omega arith) (omega arith) (small) t
    (below_known 256 t (λ i. (c.type_inv.out i).fits)) c.put_window.ensures
