-- However the input comes in blocks, what a program that answers line by line has written is the beginning of the answers to all lines, and
-- all of them at the end. A program's loop cites `begun-runs`, `reads_on`, `turns-on` and `runs-answered`. Assumes nothing.
use mathlib.Core.Path.{◌≡◌, refl, sym, ap, ◌∙◌}
use mathlib.Core.Bool.{Bool, true, false, not, ◌&&◌, true≢false, false≢true}
use mathlib.Core.List.{List, [], ◌++◌, append-nil, append_assoc, IsPrefix}
use Prim.Native.Nat.{ℕ, ◌≤◌, ◌<◌}
use native.Mathlib.Nat.{lt_of_not-le}
use native.Mathlib.Decide.{dec_le}
use borrow.Author.Tests.{ltb-true}
use lib.Dec.{ltb}
use lib.ListN.{take}
use Rattle.blocks.specs.Reading.{nothing, left, Steps, TakesOn, Arrival}
use Rattle.blocks.specs.declared.Input.{Input}
use Rattle.queue.specs.Waiting.{Joins}
use Rattle.queue.specs.declared.Queue.{Queue}
use Rattle.queue.proofs.Joining.{joins_length}
use Rattle.line_by_line.specs.Lines.{in_front, lines_of, answers, answers_to}
use Rattle.line_by_line.specs.Running.{goes_on, empty, reply, waits, Ran, Enough, Runs, all_read, Told, Answered}
use Rattle.line_by_line.specs.Running.Ran.{begun, goes, reads}
use Rattle.line_by_line.proofs.Splits.{answers_append, whole_done}
use Rattle.line_by_line.proofs.Steps.{takes_length}
use Rattle.line_by_line.proofs.Outcomes.{Outcome, outcome, enough_as, arrives_length}
use Rattle.line_by_line.proofs.Outcomes.Outcome.{on, all, cut}

-- ---- what is told where the program stands

-- the answers to the lines that are done begin the answers to all
done_begin : (f : List ℕ → List ℕ) {told : List ℕ} (text : List ℕ) (done others : List (List ℕ)) → told ≡ answers f done
    → lines_of text ≡ done ++ others → IsPrefix told (answers_to f text)
done_begin f text done others t l =
    (answers f others, ap (λ (a : List ℕ). a ++ answers f others) t ∙ sym (answers_append f done others) ∙ ap (answers f) (sym l))

module _ (i : Input) where
  not_ended : i.ended ≡ false → all_read i ≡ false
  not_ended e = rw e

  read_out : i.ended ≡ true → i.failed ≡ false → all_read i ≡ true
  read_out e g = rw (e, g)

  read_badly : i.ended ≡ true → i.failed ≡ true → all_read i ≡ false
  read_badly e g = rw (e, g)

outcome_told : {f : List ℕ → List ℕ} {came told block line : List ℕ} {i : Input} → Outcome f came told block line i → Told f came told i
outcome_told {f} {came} {block = block} {i = i} (on e o) =
    record {
      begins = λ _ more. done_begin f (came ++ more) o.done (in_front o.part (lines_of (left block i ++ more))) o.put (o.lines more);
      ends = λ h. absurd (false≢true (sym (not_ended i e) ∙ h));
      cut = λ h _. absurd (false≢true (sym e ∙ h));
    }
outcome_told {i = i} (all e g t) =
    record {
      begins = λ h. absurd (true≢false (sym (read_out i e g) ∙ h));
      ends = λ _. t;
      cut = λ _ h. absurd (false≢true (sym g ∙ h));
    }
outcome_told {f} {came} {i = i} (cut e g done part lines t) =
    record {
      begins = λ _ more. done_begin f (came ++ more) done (in_front part (lines_of more)) t (lines more);
      ends = λ h. absurd (false≢true (sym (read_badly i e g) ∙ h));
      cut = λ _ _. t ∙ ap (answers f) (sym (whole_done came part done lines));
    }

module _ {f : List ℕ → List ℕ} {came gone block line out : List ℕ} {i : Input} {q : Queue}
    (h : Ran f came gone block line i out q) (e : Enough f line out) where
  -- what was handed over and what waits: the beginning of the text, and all of it behind the end
  pub ran_told : Told f came (gone ++ waits q out) i
  ran_told = outcome_told (outcome h e)

  -- what was handed over is the beginning at any time
  pub ran_written : IsPrefix gone (answers_to f came)
  ran_written = by (all_read i) refl
    where
      less : {text : List ℕ} → IsPrefix (gone ++ waits q out) text → IsPrefix gone text
      less p = (waits q out ++ p.0, sym (append_assoc gone (waits q out) p.0) ∙ p.1)

      by : (b : Bool) → all_read i ≡ b → IsPrefix gone (answers_to f came)
      by true a = less ([], append-nil _ ∙ ran_told.ends a)
      by false a = rw (sym (append-nil came)) (less (ran_told.begins a []))

-- ---- for the loop of a program

pub begun_runs : {f : List ℕ → List ℕ} {block line out : List ℕ} {i : Input} → i ≡ nothing → Enough f line out → Runs f block line i out empty
begun_runs n e = rw n (record { came = []; gone = []; ran = begun; enough = e })

pub reads_on : (i : Input) (q : Queue) (turns : ℕ) → goes_on i q turns ≡ true → (i.ended ≡ false) × (0 < turns)
reads_on i q turns h = by q.lost i.ended refl h
  where
    by : (lost ended : Bool) → i.ended ≡ ended → (not lost && not ended && ltb 0 turns) ≡ true → (i.ended ≡ false) × (0 < turns)
    by false false e t = (e, ltb-true 0 turns t)
    by false true e t = absurd (false≢true t)
    by true ended e t = absurd (false≢true t)

-- what is put for the line in hand, by whether it is whole
module _ (f : List ℕ → List ℕ) (line : List ℕ) (i : Input) where
  pub reply_whole : i.whole ≡ true → f (take i.kept line) ≡ reply f line i
  reply_whole e = rw e

  pub reply_none : i.whole ≡ false → [] ≡ reply f line i
  reply_none e = rw e

-- one turn: a step of reading, and the answer to the line in hand, if it is whole
module _ {f : List ℕ → List ℕ} {block line out block' line' out' : List ℕ} {i r : Input} {q t : Queue}
    (p : Runs f block line i out q) (o : i.ended ≡ false) where
  goes_taking : block' ≡ block → i.from < i.to → TakesOn block line i r line' → Joins (reply f line' r) q out t out' → Runs f block' line' r out' t
  goes_taking e l s j =
      rw e (record { came = _; gone = _; ran = goes p.ran o l s j; enough = enough_as (sym (takes_length s)) (sym (joins_length j)) p.enough })

  goes_reading : i.to ≤ i.from → Arrival block' line i r line' → Joins (reply f line' r) q out t out' → Runs f block' line' r out' t
  goes_reading l a j =
      record {
        came = _;
        gone = _;
        ran = reads p.ran o l a j;
        enough = enough_as (sym (arrives_length a.got a.arrives)) (sym (joins_length j)) p.enough;
      }

  pub turns_on : Steps block line i r block' line' → Joins (reply f line' r) q out t out' → Runs f block' line' r out' t
  turns_on s j = by (dec_le i.to i.from)
    where
      by : Dec (i.to ≤ i.from) → Runs f block' line' r out' t
      by (yes l) = goes_reading l (s.reads o l) j
      by (no l) = let m = lt_of_not-le l in goes_taking (s.goes o m).0 m (s.goes o m).1 j

pub runs_answered : {f : List ℕ → List ℕ} {block line out : List ℕ} {i : Input} {q : Queue} → Runs f block line i out q → Answered f i out q
runs_answered {block = block} {line = line} p =
    record { block = block; line = line; came = p.came; gone = p.gone; ran = p.ran; told = ran_told p.ran p.enough }
