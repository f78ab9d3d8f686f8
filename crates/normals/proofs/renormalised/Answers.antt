-- `normals::renormalised` meets its contract: the normal form that was written is normalised to itself. Assumes nothing.
use mathlib.Core.Path.{sym}
use native.Mathlib.Omega.{arith}
use lib.Seq.{length-take-le}
use Rattle.format.specs.Rules.{paper}
use Rattle.normals.proofs.Forms.{ready, given_size, lent_form, no_room_for_second, form_refused, renormalises}
use Rattle.normals.proofs.renormalised.Goals as goal

pub returns-then-y-lt104 : goal.returns-then-y-lt104
returns-then-y-lt104 c =
    let a = c.args in
    rw c.at_once.ensures (no_room_for_second paper a.s.now a.n a.x.now a.y.now (omega (arith, c.if-y-lt104.true)))

pub returns-in_default : goal.returns-in_default
returns-in_default c =
    let a = c.args in
    form_refused paper a.s.now a.n a.x.now a.y.now _ (omega arith) c.normalise-a.ensures c.in_default.is

pub returns : goal.returns
returns c =
    let a = c.args in
    renormalises paper a.s.now a.n a.x.now a.y.now _ (omega arith) c.normalise-a.ensures c.in-Ok.is c.bytes_for.ensures
    c.normalise.ensures

-- that the parts that are lent lie inside what they are parts of; below the answers, so that an edit of a part is refused at an answer

pub slice_bounds-normalise-end : goal.slice_bounds-normalise-end
slice_bounds-normalise-end c =
    let a = c.args in
    let h = c.normalise-a.ensures in
    let e = c.in-Ok.is in
    rw (c.bytes_for.ensures, given_size paper a.s.now a.n a.x.now _ h e)
    (lent_form paper a.s.now a.n a.x.now (ready paper a.s.now a.n a.x.now _ h e) _ h)

pub slice_bounds-normalise-end-2 : goal.slice_bounds-normalise-end-2
slice_bounds-normalise-end-2 c =
    let a = c.args in
    let h = c.normalise-a.ensures in
    let e = c.in-Ok.is in
    sym (length-take-le _ _
    (rw (c.bytes_for.ensures, given_size paper a.s.now a.n a.x.now _ h e)
    (lent_form paper a.s.now a.n a.x.now (ready paper a.s.now a.n a.x.now _ h e) _ h)))
