-- `copying::few` meets its contract: after i turns the first i bytes are copied. Assumes nothing.
use mathlib.Core.Path.{◌≡◌, sym, ap, ap₂, ◌∙◌}
use mathlib.Core.List.{List, ◌++◌}
use Prim.Native.Nat.{ℕ, ◌+◌, ◌≤◌, ◌<◌}
use native.Mathlib.Nat.{zero-add}
use native.Mathlib.Numerals.{add-one}
use native.Mathlib.Omega.{arith}
use lib.ListN.{length, drop, get_or, set}
use lib.Seq.{paste, paste-zero, paste-suc, length-paste, take_all}
use Rattle.copying.proofs.few.Goals as goal

-- a copy of i elements is as long as what it is copied to
kept : (d s out : List ℕ) (i : ℕ) → length s ≤ length d → i ≤ length s → out ≡ paste d 0 s i → length out ≡ length d
kept d s out i h l e = ap length e ∙ length-paste d 0 s i (omega arith) l

-- one more
one_more : (d s out : List ℕ) (i : ℕ) → length s ≤ length d → i < length s → out ≡ paste d 0 s i → set out i (get_or s i 0) ≡ paste d 0 s (i + 1)
one_more d s out i h l e =
    let z : 0 + i ≡ i = zero-add i in
    ap (λ (o : List ℕ). set o i (get_or s i 0)) e
    ∙ ap (λ (k : ℕ). set (paste d 0 s i) k (get_or s i 0)) (sym z)
    ∙ paste-suc d 0 s i 0 (omega arith) l
    ∙ ap (paste d 0 s) (sym (add-one i))

-- all
whole : (d s out : List ℕ) (i : ℕ) → i ≡ length s → out ≡ paste d 0 s i → out ≡ s ++ drop (length s) d
whole d s out i l e =
    e
    ∙ ap (paste d 0 s) l
    ∙ ap₂ (λ (x : List ℕ) (k : ℕ). x ++ drop k d) (take_all (length s) s (omega arith)) (zero-add (length s))

pub loop-i-init : goal.loop-i-init
loop-i-init c = (omega arith, paste-zero c.args.out.now 0 c.args.s.now)

pub bounds-s-i : goal.bounds-s-i
bounds-s-i c = c.loop-i-test.true

pub bounds-out-i : goal.bounds-out-i
bounds-out-i c =
    let a = c.args in
    let k = kept a.out.now a.s.now c.loop-i.out c.loop-i.i c.requires c.loop-i.invariant.0 c.loop-i.invariant.1 in
    omega (arith, c.loop-i-test.true, c.requires)

pub overflow_add-i : goal.overflow_add-i
overflow_add-i c = omega (arith, c.well_formed, c.loop-i-test.true)

pub loop-i-smaller : goal.loop-i-smaller
loop-i-smaller c = omega (arith, c.loop-i-test.true)

pub loop-i-preserved : goal.loop-i-preserved
loop-i-preserved c =
    let a = c.args in
    (omega (arith, c.loop-i-test.true), one_more a.out.now a.s.now c.loop-i.out c.loop-i.i c.requires c.loop-i-test.true c.loop-i.invariant.1)

pub shape_of-out : goal.shape_of-out
shape_of-out c =
    let a = c.args in
    kept a.out.now a.s.now c.loop-i.out c.loop-i.i c.requires c.loop-i.invariant.0 c.loop-i.invariant.1

pub returns : goal.returns
returns c =
    let a = c.args in
    whole a.out.now a.s.now c.loop-i.out c.loop-i.i (omega (arith, c.loop-i.invariant.0, c.loop-i-test.false)) c.loop-i.invariant.1
