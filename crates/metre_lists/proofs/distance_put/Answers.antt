-- `metre_lists::distance_put` meets its contract. Assumes nothing.
use mathlib.Core.Path.{refl, ap, ◌∙◌}
use Prim.Native.Nat.{ℕ, ◌≤◌}
use native.Mathlib.Omega.{arith}
use lib.ListN.{length}
use Rattle.metre_lists.proofs.Reading.{front, short_bytes, little_room, room}
use Rattle.bits.specs.Put.{put_at}
use Rattle.distance.specs.Distance.{number_of}
use Rattle.distance.specs.Steps.{decimetres, steps}
use Rattle.metre_lists.proofs.distance_put.Goals as goal

pub returns-then-s-lt8 : goal.returns-then-s-lt8
returns-then-s-lt8 c = let a = c.args in rw (short_bytes a.s.now a.out.now c.if-s-lt8.true) refl

pub returns-then-out-lt4 : goal.returns-then-out-lt4
returns-then-out-lt4 c = let a = c.args in rw (little_room a.s.now a.out.now (omega arith) c.if-out-lt4.true) refl

pub returns : goal.returns
returns c =
    let a = c.args in
    let long : 8 ≤ length a.s.now = omega arith in
    rw (room a.s.now a.out.now long (omega arith))
    (c.put.ensures
    ∙ ap (λ (v : ℕ). put_at a.out.now a.d 15 (steps 1 (decimetres (number_of a.k) v))) (front a.s.now a.d long c.look.ensures 15 (omega arith)))
