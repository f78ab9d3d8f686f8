-- `groups::main` is safe and ends, and what it has written then is the answers to all lines. The loop's invariant: what is lent has its length, and the
-- program has run line by line. The measure is the number of turns that are left. Assumes nothing.
use mathlib.Core.Path.{◌≡◌, refl, sym, ◌∙◌}
use mathlib.Core.Bool.{false}
use mathlib.Core.List.{List}
use Prim.Native.Nat.{ℕ, ◌<◌, ◌-◌}
use native.Mathlib.Omega.{arith}
use lib.ListN.{length}
use Rattle.group_answers.specs.Lines.{answer_to}
use Rattle.group_answers.proofs.Kept.{kept_tells}
use Rattle.blocks.proofs.Stepping.{step_fits}
use Rattle.line_by_line.specs.Running.{Enough}
use Rattle.line_by_line.proofs.Whole.{begun_runs, reads_on, turns_on, runs_answered}
use Rattle.groups.proofs.main.Goals as goal

fewer : (n : ℕ) → 0 < n → n - 1 < n
fewer n h = omega arith

-- what is kept of a line tells its answer
enough : (line out : List ℕ) → 65536 ≡ length line → 4096 ≡ length out → Enough answer_to line out
enough line out l o = record { tells = (kept_tells (length line) (omega arith)).tells; some = omega arith; room = omega arith }

pub loop-block-init : goal.loop-block-init
loop-block-init c = (c.large_buffer-block.ensures, c.large_buffer-line.ensures, refl, begun_runs c.start-input.ensures (enough _ _ c.large_buffer-line.ensures refl))

pub slice_bounds-next-end : goal.slice_bounds-next-end
slice_bounds-next-end c = c.loop-block.invariant.0

pub slice_bounds-next-end-in-loop-block : goal.slice_bounds-next-end-in-loop-block
slice_bounds-next-end-in-loop-block c = c.loop-block.invariant.1

pub slice_bounds-answered-end : goal.slice_bounds-answered-end
slice_bounds-answered-end c = omega (arith, c.loop-block.invariant.1)

pub slice_bounds-answered-end-in-loop-block : goal.slice_bounds-answered-end-in-loop-block
slice_bounds-answered-end-in-loop-block c = c.loop-block.invariant.2

pub answered-q-requires : goal.answered-q-requires
answered-q-requires c =
    let turn : (c.loop-block.input.ended ≡ false) × (0 < c.loop-block.turns) = let l = c.loop-block in reads_on l.input l.q l.turns (sym c.goes_on.ensures ∙ c.loop-block-test.true) in
    step_fits (turn).0 c.next-input.ensures

pub overflow_sub-turns : goal.overflow_sub-turns
overflow_sub-turns c =
    let turn : (c.loop-block.input.ended ≡ false) × (0 < c.loop-block.turns) = let l = c.loop-block in reads_on l.input l.q l.turns (sym c.goes_on.ensures ∙ c.loop-block-test.true) in
    (turn).1

pub loop-block-smaller : goal.loop-block-smaller
loop-block-smaller c =
    let turn : (c.loop-block.input.ended ≡ false) × (0 < c.loop-block.turns) = let l = c.loop-block in reads_on l.input l.q l.turns (sym c.goes_on.ensures ∙ c.loop-block-test.true) in
    fewer _ (turn).1

pub loop-block-preserved : goal.loop-block-preserved
loop-block-preserved c =
    let turn : (c.loop-block.input.ended ≡ false) × (0 < c.loop-block.turns) = let l = c.loop-block in reads_on l.input l.q l.turns (sym c.goes_on.ensures ∙ c.loop-block-test.true) in
    (omega (arith, c.loop-block.invariant.0), omega (arith, c.loop-block.invariant.1), omega (arith, c.loop-block.invariant.2), turns_on c.loop-block.invariant.3 (turn).0 c.next-input.ensures c.answered-q.ensures)

pub slice_bounds-finish-end : goal.slice_bounds-finish-end
slice_bounds-finish-end c = c.loop-block.invariant.2

pub finish-requires : goal.finish-requires
finish-requires c = runs_answered c.loop-block.invariant.3
