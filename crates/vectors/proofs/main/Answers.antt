-- `vectors::main` is safe and ends, and what it has written then is the answers to all lines. The loop's invariant: what is lent has its length, and the
-- program has run line by line. The measure is the number of turns that are left. Assumes nothing.
use mathlib.Core.Path.{◌≡◌, refl, sym, ap, ◌∙◌}
use mathlib.Core.Bool.{false}
use mathlib.Core.List.{List}
use Prim.Native.Nat.{ℕ, ◌≤◌, ◌<◌, ◌-◌}
use native.Mathlib.Nat.{lt_of_not-le}
use native.Mathlib.Decide.{dec_le}
use native.Mathlib.Omega.{arith}
use borrow.Author.Tests.{le-ltb}
use lib.ListN.{length, take}
use lib.Seq.{take_all, length-take-le}
use Rattle.answer_text.specs.Texts.{no_question}
use Rattle.blocks.proofs.Stepping.{step_fits}
use Rattle.line_by_line.specs.Running.{Enough}
use Rattle.line_by_line.proofs.Whole.{begun_runs, reads_on, turns_on, runs_answered}
use Rattle.vectors.specs.Lines.{answer_to}
use Rattle.vectors.proofs.main.Goals as goal

fewer : (n : ℕ) → 0 < n → n - 1 < n
fewer n h = omega arith

-- a line that is not kept whole is too long to be a question
long_answer : (text : List ℕ) → 65536 ≤ length text → answer_to text ≡ no_question
long_answer text h = rw (le-ltb (length text) 65536 h)

kept_tells : (text : List ℕ) → answer_to (take 65536 text) ≡ answer_to text
kept_tells text = by (dec_le (length text) 65536)
  where
    by : Dec (length text ≤ 65536) → answer_to (take 65536 text) ≡ answer_to text
    by (yes h) = ap answer_to (take_all 65536 text h)
    by (no h) =
        let l = lt_of_not-le h in
        long_answer (take 65536 text) (omega (arith, length-take-le 65536 text (omega arith))) ∙ sym (long_answer text (omega arith))

enough : (line out : List ℕ) → 65536 ≡ length line → 4096 ≡ length out → Enough answer_to line out
enough line out l o =
    record {
      tells = λ text. ap (λ (n : ℕ). answer_to (take n text)) (sym l) ∙ kept_tells text;
      some = omega arith;
      room = omega arith;
    }

pub loop-block-init : goal.loop-block-init
loop-block-init c = (c.large_buffer-block.ensures, c.large_buffer-line.ensures, refl, begun_runs c.start-input.ensures (enough _ _ c.large_buffer-line.ensures refl))

pub slice_bounds-next-end : goal.slice_bounds-next-end
slice_bounds-next-end c = c.loop-block.invariant.0

pub slice_bounds-next-end-in-loop-block : goal.slice_bounds-next-end-in-loop-block
slice_bounds-next-end-in-loop-block c = c.loop-block.invariant.1

pub slice_bounds-answered-end : goal.slice_bounds-answered-end
slice_bounds-answered-end c = omega (arith, c.loop-block.invariant.1)

pub slice_bounds-answered-end-in-loop-block : goal.slice_bounds-answered-end-in-loop-block
slice_bounds-answered-end-in-loop-block c = c.loop-block.invariant.2

pub answered-q-requires : goal.answered-q-requires
answered-q-requires c =
    let turn : (c.loop-block.input.ended ≡ false) × (0 < c.loop-block.turns) = let l = c.loop-block in reads_on l.input l.q l.turns (sym c.goes_on.ensures ∙ c.loop-block-test.true) in
    (omega (arith, c.loop-block.invariant.1), step_fits (turn).0 c.next-input.ensures)

pub overflow_sub-turns : goal.overflow_sub-turns
overflow_sub-turns c =
    let turn : (c.loop-block.input.ended ≡ false) × (0 < c.loop-block.turns) = let l = c.loop-block in reads_on l.input l.q l.turns (sym c.goes_on.ensures ∙ c.loop-block-test.true) in
    (turn).1

pub loop-block-smaller : goal.loop-block-smaller
loop-block-smaller c =
    let turn : (c.loop-block.input.ended ≡ false) × (0 < c.loop-block.turns) = let l = c.loop-block in reads_on l.input l.q l.turns (sym c.goes_on.ensures ∙ c.loop-block-test.true) in
    fewer _ (turn).1

pub loop-block-preserved : goal.loop-block-preserved
loop-block-preserved c =
    let turn : (c.loop-block.input.ended ≡ false) × (0 < c.loop-block.turns) = let l = c.loop-block in reads_on l.input l.q l.turns (sym c.goes_on.ensures ∙ c.loop-block-test.true) in
    (omega (arith, c.loop-block.invariant.0), omega (arith, c.loop-block.invariant.1), omega (arith, c.loop-block.invariant.2), turns_on c.loop-block.invariant.3 (turn).0 c.next-input.ensures c.answered-q.ensures)

pub slice_bounds-finish-end : goal.slice_bounds-finish-end
slice_bounds-finish-end c = c.loop-block.invariant.2

pub finish-requires : goal.finish-requires
finish-requires c = runs_answered c.loop-block.invariant.3
