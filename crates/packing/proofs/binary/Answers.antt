-- `packing::binary` meets its contract. The loop's invariant: the line is of 0 and 1 if the characters before are and what is left of it is. Assumes nothing.
use mathlib.Core.Bool.{Bool, ◌&&◌, and-false, and-true}
use mathlib.Core.List.{List}
use mathlib.Core.Path.{◌≡◌, refl, sym, ap, ◌∙◌}
use Prim.Native.Nat.{ℕ}
use native.Mathlib.Omega.{arith}
use lib.ListN.{length, drop, get_or}
use lib.Seq.{drop-length}
use Rattle.packing.specs.Packing.{is_bit, binary}
use Rattle.packing.proofs.Lines.{binary_more}
use Rattle.packing.proofs.binary.Goals as goal
use Rattle.packing.proofs.binary.Goals.{then-not-is_bit, else-not-is_bit}

pub loop-c-init : goal.loop-c-init
loop-c-init c = refl

pub loop-c-preserved : goal.loop-c-preserved
loop-c-preserved c =
    let b = c.loop-c.good in
    let told : c.if-not-is_bit.good ≡ (b && is_bit (get_or c.args.line.now c.loop-c.c-index 0)) =
    elim c.if-not-is_bit.branch [
      | then-not-is_bit w ↦ w.good-is ∙ sym (ap (λ (x : Bool). b && x) (sym c.is_bit.ensures ∙ w.if-not-is_bit.true) ∙ and-false b)
      | else-not-is_bit w ↦ w.good-is ∙ sym (ap (λ (x : Bool). b && x) (sym c.is_bit.ensures ∙ w.if-not-is_bit.false) ∙ and-true b)
    ] in
    c.loop-c.invariant ∙ binary_more c.args.line.now c.loop-c.c-index (omega arith) c.loop-c.good c.if-not-is_bit.good told

pub returns : goal.returns
unfolding binary
returns c =
    let e : c.loop-c.c-index ≡ length c.args.line.now = omega arith in
    sym (c.loop-c.invariant ∙ ap (λ (l : List ℕ). c.loop-c.good && binary l) (ap (λ (n : ℕ). drop n c.args.line.now) e ∙ drop-length c.args.line.now) ∙ and-true c.loop-c.good)
