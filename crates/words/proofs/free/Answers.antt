-- `words::free` meets its contract. The loop's invariant: where none is still true, the first c lies behind the characters so far. Assumes nothing.
use mathlib.Core.Bool.{Bool, true, false}
use mathlib.Core.Path.{◌≡◌, refl, sym, ◌∙◌}
use Prim.Native.Nat.{ℕ}
use native.Mathlib.Omega.{arith}
use Rattle.words.proofs.Marks.{up_nowhere, up_behind}
use Rattle.words.proofs.free.Goals as goal
use Rattle.words.proofs.free.Goals.{then-text-at, else-text-at}

-- it cannot be both
never : {A : Type 0} (b : Bool) → b ≡ false → b ≡ true → A
never b p q = let z : ◌≡◌ {A = ℕ} 0 1 = cc in absurd (omega arith)

pub returns-then-text-at-lt16 : goal.returns-then-text-at-lt16
returns-then-text-at-lt16 c = λ e. never _ refl e

pub loop-j-init : goal.loop-j-init
loop-j-init c = λ e. up_nowhere c.args.c c.args.text.now c.args.at

pub overflow_add-at : goal.overflow_add-at
overflow_add-at c = let l = c.if-text-at-lt16.false in omega (arith, c.requires)

pub bounds-text-at : goal.bounds-text-at
bounds-text-at c = let l = c.if-text-at-lt16.false in let m = c.loop-j-test.true in omega (arith, c.requires)

pub loop-j-preserved : goal.loop-j-preserved
loop-j-preserved c =
    let m = c.loop-j-test.true in
    let a = c.args in
    let j = c.loop-j.j in
    let room = c.if-text-at-lt16.false in
    let pre = c.requires in
    elim c.if-text-at.branch [
      | then-text-at w ↦ λ e. never _ w.none-is e
      | else-text-at w ↦ λ e. up_behind a.c a.text.now a.at j (omega (arith, pre)) (c.loop-j.invariant (sym w.none-is ∙ e)) w.if-text-at.false
    ]

pub returns : goal.returns
returns c =
    let l = c.if-text-at-lt16.false in
    let m = c.loop-j-test.false in
    let j : c.loop-j.j ≡ 16 = omega arith in
    λ e. (omega (arith, c.requires), rw (sym j) (c.loop-j.invariant e))
