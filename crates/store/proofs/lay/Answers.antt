-- `store::lay` meets its contract: the window written back differs from what was there in the field alone. Assumes nothing.
use mathlib.Core.Path.{◌≡◌, sym, ◌∙◌}
use mathlib.Core.Bool.{true}
use Prim.Native.Nat.{◌*◌, ◌^◌}
use native.Mathlib.Omega.{arith}
use borrow.Author.Tests.{ltb-true}
use lib.Dec.{ltb}
use Rattle.bits.specs.Bits.{value_of}
use Rattle.bits.specs.Take.{field_bits}
use Rattle.bits.proofs.Bytes.{below_known}
use Rattle.bits.proofs.Fields.{field_lt, put_past, put_large, put_whole}
use Rattle.bits.proofs.Windows.{window_is, window_over}
use Rattle.store.proofs.Laid.{laid_wide, laid_none, laid_is}
use Rattle.store.proofs.lay.Goals as goal

pub returns-then-width-gt25 : goal.returns-then-width-gt25
returns-then-width-gt25 c = let a = c.args in laid_wide a.out.now a.at a.width a.value c.if-width-gt25.true

pub returns-then-out-lt4 : goal.returns-then-out-lt4
returns-then-out-lt4 c = let a = c.args in laid_none a.out.now a.at a.width a.value (omega arith) c.if-out-lt4.true

pub returns-then-width-o : goal.returns-then-width-o
returns-then-width-o c =
    let a = c.args in
    (put_past a.out.now a.at a.width a.value (omega arith) (omega arith)).contents
    ∙ laid_is a.out.now a.at a.width a.value (omega arith) (omega arith)

pub returns-then-not-fits : goal.returns-then-not-fits
returns-then-not-fits c =
    let a = c.args in
    (put_large a.out.now a.at a.width a.value (omega arith) (omega arith) (sym c.fits.ensures ∙ c.if-not-fits.true)).contents
    ∙ laid_is a.out.now a.at a.width a.value (omega arith) (omega arith)

pub exchange-requires : goal.exchange-requires
exchange-requires c =
    let a = c.args in
    let small : ltb a.value (2 ^ a.width) ≡ true = sym c.fits.ensures ∙ c.if-not-fits.false in
    let k = c.lower-k.result in
    let four : c.window-w.result ≡ value_of (field_bits c.args.out.now 32 (8 * k)) = let k = c.lower-k.result in
    c.window-w.ensures ∙ window_is c.args.out.now k (omega arith) (λ i. (c.slice_known-5-1.given i).fits) in
    let a = c.args in
    let w = field_lt a.out.now 32 (8 * c.lower-k.result) (omega arith) in
    (rw (four) w, omega arith, ltb-true _ _ (small))

pub returns : goal.returns
returns c =
    let a = c.args in
    let small : ltb a.value (2 ^ a.width) ≡ true = sym c.fits.ensures ∙ c.if-not-fits.false in
    let k = c.lower-k.result in
    let four : c.window-w.result ≡ value_of (field_bits c.args.out.now 32 (8 * k)) = let k = c.lower-k.result in
    c.window-w.ensures ∙ window_is c.args.out.now k (omega arith) (λ i. (c.slice_known-5-1.given i).fits) in
    let a = c.args in
    let t = c.store.new.out in
    let k = c.lower-k.result in
    let e = small in
    (put_whole a.out.now a.at a.width a.value (omega arith) (omega arith) e t
    (below_known 256 t (λ i. (c.type_inv.out i).fits))
    (c.store.ensures
    ∙ window_over a.out.now k a.at a.width (omega arith) (omega arith) (omega arith)
    c.window-w.result a.value c.exchange.result _ (ltb-true _ _ e) (omega arith)
    (four)
    c.exchange.ensures)).contents
    ∙ laid_is a.out.now a.at a.width a.value (omega arith) (omega arith)
