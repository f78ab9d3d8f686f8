-- `sheet_out::rows` meets its contract. The loop's invariant, `Putting`: the rows so far stand behind any text so far. Assumes nothing.
use native.Mathlib.Omega.{arith}
use borrow.Author.Rules.{rules}
use Rattle.std.proofs.lemmas.List.{length_push}
use Rattle.std.proofs.lemmas.Slice.Zip.{zip_turn, zip_end}
use Rattle.sheet.proofs.Columns.{putting_first, next_known, putting_on, put_all}
use Rattle.sheet_out.proofs.rows.Goals as goal

pub loop-k-init : goal.loop-k-init
loop-k-init c = putting_first c.requires c.args.text.now c.args.start

pub put_row-at-requires : goal.put_row-at-requires
put_row-at-requires c =
    let t = zip_turn c.args.fields.now c.args.values.now c.loop-k.yielded c.into_iter-k-iterator.result c.loop-k.k-iterator c.next.new.self c.next.result
    (cc) (cc) c.loop-k.yielded_by _ c.in-Some.is c.next.ensures.steps in
    rw (t.2 0) (next_known c.loop-k.invariant t.1)

pub loop-k-preserved : goal.loop-k-preserved
loop-k-preserved c =
    let t = zip_turn c.args.fields.now c.args.values.now c.loop-k.yielded c.into_iter-k-iterator.result c.loop-k.k-iterator c.next.new.self c.next.result
    (cc) (cc) c.loop-k.yielded_by _ c.in-Some.is c.next.ensures.steps in
    rw (length_push c.loop-k.yielded (c.in-Some.field-0-0, c.in-Some.field-0-1))
    (putting_on c.loop-k.invariant t.1 (rw (t.2 0, t.3 0) at c.put_row-at.ensures) (search rules))

pub shape_of-text : goal.shape_of-text
shape_of-text c = c.loop-k.invariant.size

pub returns : goal.returns
returns c =
    let n = zip_end c.args.fields.now c.args.values.now c.loop-k.yielded c.into_iter-k-iterator.result c.loop-k.k-iterator c.next.new.self c.next.result
    (cc) (cc) c.loop-k.yielded_by c.in-None.is c.next.ensures.steps in
    put_all c.loop-k.invariant (omega (arith, n, c.requires.same))
