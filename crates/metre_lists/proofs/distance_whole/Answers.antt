-- `metre_lists::distance_whole` meets its contract. Assumes nothing.
use mathlib.Core.Path.{refl, ap, ◌∙◌}
use Prim.Native.Nat.{ℕ, ◌≤◌}
use native.Mathlib.Omega.{arith}
use borrow.Author.Tests.{le-leb, lt-leb}
use lib.ListN.{length}
use Rattle.metre_lists.proofs.Reading.{front}
use Rattle.distance.specs.Distance.{number_of, whole_metres}
use Rattle.distance.specs.Steps.{decimetres}
use Rattle.metre_lists.proofs.distance_whole.Goals as goal

pub returns-then-s-lt8 : goal.returns-then-s-lt8
returns-then-s-lt8 c = rw (lt-leb 8 (length c.args.s.now) c.if-s-lt8.true) refl

pub returns : goal.returns
returns c =
    let a = c.args in
    let long : 8 ≤ length a.s.now = omega arith in
    rw (le-leb 8 (length a.s.now) long) (c.whole.ensures ∙ ap (λ (v : ℕ). whole_metres 15 (decimetres (number_of a.k) v)) (front a.s.now a.d long c.look.ensures 15 (omega arith)))
