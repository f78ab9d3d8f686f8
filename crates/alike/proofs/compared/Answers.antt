-- `alike::compared` meets its contract: normal forms of as many bits have the same bits just where they have the same bytes.
-- Assumes nothing.
use mathlib.Core.Path.{refl, sym}
use borrow.Author.Tests.{ne_eqb}
use lib.Seq.{length-take-le}
use Rattle.std.proofs.lemmas.Bool.Decides.{Decides-eqb}
use Rattle.std.proofs.lemmas.Slice.Eq.{slice_eq-Decides}
use Rattle.format.specs.Rules.{paper}
use Rattle.normals.proofs.Forms.{gives, lent_form}
use Rattle.alike.proofs.Pairs.{other_size, found}
use Rattle.alike.proofs.compared.Goals as goal

pub unwrap-requires : goal.unwrap-requires
unwrap-requires c = rw (gives paper c.args.s.now c.args.n c.args.x.now c.requires.0 _ c.normalise.ensures) refl

pub unwrap-requires-2 : goal.unwrap-requires-2
unwrap-requires-2 c = rw (gives paper c.args.t.now c.args.m c.args.y.now c.requires.1 _ c.normalise-2.ensures) refl

pub returns-else-n-m : goal.returns-else-n-m
returns-else-n-m c =
    let a = c.args in
    rw (ne_eqb a.n a.m c.if-n-m.false)
    (other_size paper a.s.now a.n a.t.now a.m a.x.now a.y.now c.requires.0 c.requires.1 _ _ c.normalise.ensures c.normalise-2.ensures
    c.if-n-m.false)

pub returns-then-n-m : goal.returns-then-n-m
returns-then-n-m c =
    let a = c.args in
    found paper a.s.now a.n a.t.now a.m a.x.now a.y.now c.requires.0 c.requires.1 _ _ c.normalise.ensures c.normalise-2.ensures
    c.if-n-m.true c.bytes_for-k.ensures _ (slice_eq-Decides Decides-eqb _ _ _ c.eq.ensures)

-- that the parts that are compared lie inside what they are parts of; below the answers, so that an edit of a part is refused at an answer

pub slice_bounds-eq-end : goal.slice_bounds-eq-end
slice_bounds-eq-end c =
    let a = c.args in
    rw c.bytes_for-k.ensures (lent_form paper a.s.now a.n a.x.now c.requires.0 _ c.normalise.ensures)

pub slice_bounds-eq-end-then-n-m : goal.slice_bounds-eq-end-then-n-m
slice_bounds-eq-end-then-n-m c =
    let a = c.args in
    sym (length-take-le _ _ (rw c.bytes_for-k.ensures (lent_form paper a.s.now a.n a.x.now c.requires.0 _ c.normalise.ensures)))

pub slice_bounds-eq-end-then-n-m-2 : goal.slice_bounds-eq-end-then-n-m-2
slice_bounds-eq-end-then-n-m-2 c =
    let a = c.args in
    rw c.bytes_for-k.ensures (rw c.if-n-m.true (lent_form paper a.t.now a.m a.y.now c.requires.1 _ c.normalise-2.ensures))

pub slice_bounds-eq-end-then-n-m-3 : goal.slice_bounds-eq-end-then-n-m-3
slice_bounds-eq-end-then-n-m-3 c =
    let a = c.args in
    sym (length-take-le _ _
    (rw c.bytes_for-k.ensures (rw c.if-n-m.true (lent_form paper a.t.now a.m a.y.now c.requires.1 _ c.normalise-2.ensures))))
