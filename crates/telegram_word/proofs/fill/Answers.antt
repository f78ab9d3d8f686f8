-- `telegram_word::fill` meets its contract. The loop's invariant: the first i bytes of the text stand in front, and behind them what was there. Assumes nothing.
use mathlib.Core.Path.{◌≡◌, refl, ap, ◌∙◌}
use mathlib.Core.List.{◌++◌}
use Prim.Native.Nat.{ℕ, ◌+◌, ◌*◌}
use native.Mathlib.Omega.{arith}
use lib.ListN.{take, drop, length-set}
use Rattle.telegram_word.specs.Telegrams.{bytes_in}
use Rattle.telegram_word.proofs.Hexes.{hexed_small, store_again}
use Rattle.telegram_word.proofs.fill.Goals as goal

pub loop-i-init : goal.loop-i-init
unfolding bytes_in
loop-i-init c = (refl, refl)

pub overflow_mul-out : goal.overflow_mul-out
overflow_mul-out c =
    let s = c in
    let l = c.loop-i in
    let h = hexed_small s.args.text.now (2 * s.args.k) (2 * l.i) s.requires.0 s.requires.1 (omega arith) in
    omega (arith, h, c.digit.ensures)

pub overflow_add-out : goal.overflow_add-out
overflow_add-out c =
    let s = c in
    let l = c.loop-i in
    let h = hexed_small s.args.text.now (2 * s.args.k) (2 * l.i) s.requires.0 s.requires.1 (omega arith) in
    let g = hexed_small s.args.text.now (2 * s.args.k) (2 * l.i + 1) s.requires.0 s.requires.1 (omega arith) in
    omega (arith, h, g, c.digit.ensures, c.digit-in-loop-i.ensures)

pub loop-i-preserved : goal.loop-i-preserved
loop-i-preserved c =
    let a = c.args in
    let l = c.loop-i in (
      simp length-set l.invariant.0,
      rw (l.invariant.1, c.digit.ensures, c.digit-in-loop-i.ensures) (store_again a.text.now a.out.now l.i (omega arith) (omega arith)),
    )

pub shape_of-out : goal.shape_of-out
shape_of-out c = c.loop-i.invariant.0

pub returns : goal.returns
returns c =
    let a = c.args in
    let e : c.loop-i.i ≡ a.k = omega arith in
    c.loop-i.invariant.1 ∙ ap (λ (n : ℕ). bytes_in (take (2 * n) a.text.now) ++ drop n a.out.now) e
