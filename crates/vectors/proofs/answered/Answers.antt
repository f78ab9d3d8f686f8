-- `vectors::answered` meets its contract: one case for each of the three things that it puts. Assumes nothing.
use mathlib.Core.Path.{◌≡◌, sym, ◌∙◌}
use mathlib.Core.Bool.{false, not}
use mathlib.Core.List.{List}
use Prim.Native.Nat.{ℕ, ◌≤◌, ◌<◌}
use native.Mathlib.Nat.{lt_of_not-le}
use native.Mathlib.Omega.{arith}
use borrow.Author.Tests.{le-ltb, lt-ltb, not-true, not-false}
use lib.ListN.{length, take}
use lib.Seq.{length-take-le}
use Rattle.blocks.specs.declared.Input.{Input}
use Rattle.queue.proofs.Joining.{joins_nothing, joins_as}
use Rattle.line_by_line.specs.Running.{reply}
use Rattle.line_by_line.proofs.Whole.{reply_whole, reply_none}
use Rattle.answer_text.specs.Texts.{no_question}
use Rattle.questions.specs.Questions.{reply_to}
use Rattle.vectors.specs.Lines.{answer_to}
use Rattle.vectors.proofs.answered.Goals as goal

-- of a line that fills what is lent for it more may be missing; one that does not is kept whole
module _ (line : List ℕ) (i : Input) (room : 65536 ≡ length line) (within : i.kept ≤ length line) (w : not i.whole ≡ false) where
  as_kept : length (take i.kept line) ≡ i.kept
  as_kept = length-take-le i.kept line within

  few : (i.kept ≡ length line → ⊥) → length (take i.kept line) < 65536
  few e = lt_of_not-le (λ h. e (omega (arith, as_kept)))

  filled : i.kept ≡ length line → no_question ≡ reply answer_to line i
  filled e = sym (rw (le-ltb (length (take i.kept line)) 65536 (omega (arith, as_kept)))) ∙ reply_whole answer_to line i (not-false _ w)

  replied : (i.kept ≡ length line → ⊥) → reply_to (take i.kept line) ≡ reply answer_to line i
  replied e = sym (rw (lt-ltb (length (take i.kept line)) 65536 (few e))) ∙ reply_whole answer_to line i (not-false _ w)

pub returns-then-not-input : goal.returns-then-not-input
returns-then-not-input c =
    let s = c in
    joins_as (reply_none answer_to s.args.line.now s.args.input (not-true _ c.if-not-input.true)) (joins_nothing _ _)

pub returns-then-n-line : goal.returns-then-n-line
returns-then-n-line c =
    let s = c in
    joins_as (filled s.args.line.now s.args.input s.requires.0 s.requires.1 c.if-not-input.false c.if-n-line.true) c.no_question.ensures

pub slice_bounds-respond-end : goal.slice_bounds-respond-end
slice_bounds-respond-end c = sym (length-take-le c.args.input.kept c.args.line.now c.requires.1)

pub returns : goal.returns
returns c =
    let s = c in
    joins_as (replied s.args.line.now s.args.input s.requires.0 s.requires.1 c.if-not-input.false c.if-n-line.false) c.respond.ensures
