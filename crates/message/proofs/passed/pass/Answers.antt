-- `message::passed::pass` meets its contract: none that was passed collides, and the table has them all. The measure is how many bits are left. Assumes nothing.
use mathlib.Core.Path.{sym, ◌∙◌}
use lib.ListN.{drop}
use Rattle.std.proofs.lemmas.Bool.{not-false}
use Rattle.message.proofs.Hops.{hopping_first, hopping_end, hopping_hit, hopping_on, hopping_small}
use native.Mathlib.Omega.{arith}
use Rattle.message.proofs.passed.pass.Goals as goal

pub loop-id-init : goal.loop-id-init
loop-id-init c = hopping_first _ (drop c.args.b.seat.start c.args.s.now) c.args.b.seat.n _ c.requires.1.0 c.requires.0

pub bounds-seen-id : goal.bounds-seen-id
bounds-seen-id c = omega (arith, (hopping_small c.loop-id.invariant _ _ _ c.in-Some.ensures).id, c.loop-id.invariant.long)

pub overflow_add-result : goal.overflow_add-result
overflow_add-result c = omega (arith, (hopping_small c.loop-id.invariant _ _ _ c.in-Some.ensures).whole, c.requires.1.1)

pub returns-then-repeats : goal.returns-then-repeats
returns-then-repeats c = let e = not-false c.args.b.counts c.if-not-b.false in rw e (hopping_hit c.loop-id.invariant _ _ _ c.in-Some.ensures (sym c.repeats.ensures ∙ c.if-repeats.true))

pub bounds-seen-id-in-Some : goal.bounds-seen-id-in-Some
bounds-seen-id-in-Some c = omega (arith, (hopping_small c.loop-id.invariant _ _ _ c.in-Some.ensures).id, c.loop-id.invariant.long)

pub overflow_add-at : goal.overflow_add-at
overflow_add-at c = let h = hopping_small c.loop-id.invariant _ _ _ c.in-Some.ensures in omega (arith, h.whole, h.most, c.requires.1.1)

pub overflow_add-count : goal.overflow_add-count
overflow_add-count c = omega (arith, (hopping_small c.loop-id.invariant _ _ _ c.in-Some.ensures).whole, c.loop-id.invariant.few, c.requires.1.1)

pub loop-id-smaller : goal.loop-id-smaller
loop-id-smaller c = let h = hopping_small c.loop-id.invariant _ _ _ c.in-Some.ensures in omega (arith, h.whole, h.least)

pub loop-id-preserved : goal.loop-id-preserved
loop-id-preserved c = hopping_on c.loop-id.invariant _ _ _ c.in-Some.ensures (sym c.repeats.ensures ∙ c.if-repeats.false) c.joined.result c.joined.ensures

pub returns : goal.returns
returns c = let e = not-false c.args.b.counts c.if-not-b.false in rw e (hopping_end c.loop-id.invariant c.in_default.ensures)
