-- `parse::places_at` meets its contract. The loop's invariant, `Reading`: what is read from at on is what is read behind k
-- places of v. Assumes nothing.
use mathlib.Core.Path.{◌≡◌, sym, ◌∙◌}
use Prim.Native.Nat.{◌+◌}
use native.Mathlib.Nat.{add-zero}
use native.Mathlib.Omega.{arith}
use lib.ListN.{get_or}
use Rattle.pieces.proofs.Sixteens.{reading_first, reading_on, reads_all, reads_short, reads_other, room, small_places}
use Rattle.parse.proofs.places_at.Goals as goal

pub loop-k-init : goal.loop-k-init
loop-k-init c = (omega arith, rw add-zero (reading_first c.args.text.now c.args.at))

pub returns-in_err-c : goal.returns-in_err-c
returns-in_err-c c = rw c.from_residual.ensures (sym (reads_short c.loop-k.invariant.1 (omega arith) c.in_err-c.ensures.lookup.3))

pub returns-then-not-is_place : goal.returns-then-not-is_place
returns-then-not-is_place c =
    let g = c.in_ok-c.ensures.lookup in
    let e : c.in_ok-c.field-0.now ≡ get_or c.args.text.now (c.args.at + c.loop-k.k) 0 = g.4 (omega arith) 0 in
    sym (reads_other c.loop-k.invariant.1 (omega arith) g.3.0 (rw (← e) (sym c.is_place.ensures ∙ c.if-not-is_place.true)))

pub overflow_mul-v : goal.overflow_mul-v
overflow_mul-v c =
    let g = c.in_ok-c.ensures.lookup in
    let e : c.in_ok-c.field-0.now ≡ get_or c.args.text.now (c.args.at + c.loop-k.k) 0 = g.4 (omega arith) 0 in
    let r = room c.loop-k.invariant.1 (omega arith) g.3.0 (rw (← e) (sym c.is_place.ensures ∙ c.if-not-is_place.false)) in
    omega (arith, r, small_places (c.loop-k.k + 1) (omega arith))

pub place-requires : goal.place-requires
place-requires c = sym c.is_place.ensures ∙ c.if-not-is_place.false

pub overflow_add-v : goal.overflow_add-v
overflow_add-v c =
    let g = c.in_ok-c.ensures.lookup in
    let e : c.in_ok-c.field-0.now ≡ get_or c.args.text.now (c.args.at + c.loop-k.k) 0 = g.4 (omega arith) 0 in
    let r = room c.loop-k.invariant.1 (omega arith) g.3.0 (rw (← e) (sym c.is_place.ensures ∙ c.if-not-is_place.false)) in
    omega (arith, rw (← e) at r, small_places (c.loop-k.k + 1) (omega arith), c.place.ensures)

pub loop-k-preserved : goal.loop-k-preserved
loop-k-preserved c =
    let g = c.in_ok-c.ensures.lookup in
    let e : c.in_ok-c.field-0.now ≡ get_or c.args.text.now (c.args.at + c.loop-k.k) 0 = g.4 (omega arith) 0 in
    let next : c.args.at + (c.loop-k.k + 1) ≡ c.args.at + c.loop-k.k + 1 = omega arith in
    let on = reading_on c.loop-k.invariant.1 (omega arith) g.3.0 (rw (← e) (sym c.is_place.ensures ∙ c.if-not-is_place.false)) in
    (omega (arith, g.3.0), rw (next, c.place.ensures, e) on)

pub returns : goal.returns
returns c =
    let end : c.loop-k.k ≡ 16 = omega arith in
    rw (← end) (sym (reads_all c.loop-k.invariant.1 (omega arith)))

pub overflow_add-at : goal.overflow_add-at
overflow_add-at c = omega (arith, c.loop-k.invariant.0)

pub overflow_add-result : goal.overflow_add-result
overflow_add-result c = let end : c.loop-k.k ≡ 16 = omega arith in omega (arith, c.loop-k.invariant.0)
