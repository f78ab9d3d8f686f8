-- A program that answers line by line: what it has told where it stands is the answers to the lines of all that came. Assumes nothing.
use Rattle.std.specs.Prelude.{Ok, Err, Result}
use mathlib.Core.Path.{◌≡◌, refl, sym, ap, ap₂, ◌∙◌, subst}
use mathlib.Core.Bool.{Bool, true, false, cond}
use mathlib.Core.List.{List, [], ◌∷◌, ◌++◌, append-nil}
use Prim.Native.Nat.{ℕ, ◌≤◌, ◌<◌}
use native.Mathlib.Omega.{arith}
use borrow.Author.Tests.{lt-ltb, eqb-true}
use lib.Dec.{eqb, ltb}
use lib.ListN.{length, take, length-take}
use lib.Seq.{take-nil}
use Rattle.blocks.specs.Reading.{held, over, in_hand, taken_on, TakesOn, stopped, fresh, Arrives}
use Rattle.blocks.specs.declared.ReadFailed.{ReadFailed}
use Rattle.blocks.specs.declared.Input.{Input}
use Rattle.queue.specs.declared.Queue.{Queue}
use Rattle.queue.proofs.Joining.{joins_length}
use Rattle.line_by_line.specs.Lines.{in_front, lines_of, answers, answers_to}
use Rattle.line_by_line.specs.Running.{brought, reply, waits, Ran, Enough}
use Rattle.line_by_line.specs.Running.Ran.{begun, goes, reads}
use Rattle.line_by_line.proofs.Splits.{answers_append}
use Rattle.line_by_line.proofs.Spills.{joins_told}
use Rattle.line_by_line.proofs.Steps.{Open, over_length, held_front, taken_open, takes_length, lines_read, fresh_open}

-- before the end; behind an end of the input itself; and behind one where it could not be read on, with the lines that were done by then
pub data Outcome (f : List ℕ → List ℕ) (came told block line : List ℕ) (i : Input) : Type 0 where
  on : i.ended ≡ false → Open f came told block line i → Outcome f came told block line i
  all : i.ended ≡ true → i.failed ≡ false → told ≡ answers_to f came → Outcome f came told block line i
  cut : i.ended ≡ true → i.failed ≡ true → (done : List (List ℕ)) (part : List ℕ)
      → ((more : List ℕ) → lines_of (came ++ more) ≡ done ++ in_front part (lines_of more)) → told ≡ answers f done → Outcome f came told block line i

-- ---- the end of the input

-- a last line with no newline: what is kept of it is answered, unless it is empty
last_reply : (f : List ℕ → List ℕ) (line part : List ℕ) (n : ℕ) → ((text : List ℕ) → f (take (length line) text) ≡ f text) → 0 < length line
    → n ≡ length (take (length line) part) → take n line ≡ take (length line) part
    → cond (ltb 0 n) (f (take n line)) [] ≡ answers f (in_front part [])
unfolding answers
last_reply f line [] n tells some e h = let none : n ≡ 0 = e ∙ ap length (take-nil {A = ℕ} (length line)) in rw none
last_reply f line (c ∷ part) n tells some e h =
    let more : 0 < n = omega (arith, e, length-take (length line) (c ∷ part)) in
    rw (lt-ltb 0 n more) (ap f h ∙ tells (c ∷ part) ∙ sym (append-nil (f (c ∷ part))))

module _ {f : List ℕ → List ℕ} {came told block line : List ℕ} {i : Input} (tells : (text : List ℕ) → f (take (length line) text) ≡ f text)
    (some : 0 < length line) (o : Open f came told block line i) (few : i.to ≤ i.from) where
  ended_all : told ++ reply f line (stopped (length (held line i)) false) ≡ answers_to f (came ++ [])
  unfolding lines_of
  ended_all =
      ap (λ (l : List ℕ). l ++ reply f line (stopped (length (held line i)) false)) o.put
      ∙ ap (λ (l : List ℕ). answers f o.done ++ l)
      (last_reply f line o.part (length (held line i)) tells some (ap length o.kept) (held_front line i ∙ o.kept))
      ∙ sym (answers_append f o.done (in_front o.part []))
      ∙ ap (answers f) (sym (lines_read o few []))

-- ---- what a read brought

module _ {f : List ℕ → List ℕ} {came told block line : List ℕ} {i : Input} (tells : (text : List ℕ) → f (take (length line) text) ≡ f text)
    (some : 0 < length line) (o : Open f came told block line i) (few : i.to ≤ i.from) (block' line' : List ℕ) (r : Input) where
  abbrev After : List ℕ → Type 0
  After more = Outcome f (came ++ more) (told ++ reply f line' r) block' line' r

  failed_cut : r ≡ stopped 0 true → After []
  failed_cut e =
      cut (ap (λ (x : Input). x.ended) e) (ap (λ (x : Input). x.failed) e) o.done o.part
      (λ more. ap (λ (l : List ℕ). lines_of (l ++ more)) (append-nil came) ∙ lines_read o few more)
      (ap (λ (x : Input). told ++ reply f line' x) e ∙ append-nil told ∙ o.put)

  none_ends : (n : ℕ) → n ≡ 0 → r ≡ stopped (length (held line i)) false → line' ≡ line → After (take n block')
  none_ends n z e l =
      all (ap (λ (x : Input). x.ended) e) (ap (λ (x : Input). x.failed) e)
      (ap₂ (λ (x : Input) (k : List ℕ). told ++ reply f k x) e l
      ∙ ended_all tells some o few
      ∙ ap (λ (k : ℕ). answers_to f (came ++ take k block')) (sym z))

  some_open : (n : ℕ) → TakesOn block' line (fresh n i) r line' → After (take n block')
  unfolding taken_on
  some_open n t = on (ap (λ (x : Input). x.ended) t.stands) (taken_open tells (fresh_open o few block' n) t)

  arrived : (got : Result ℕ ReadFailed) → Arrives block' line i got r line' → After (brought block' got)
  arrived (Err _) a = failed_cut a.stands
  arrived (Ok n) a = by (eqb n 0) refl
    where
      by : (b : Bool) → eqb n 0 ≡ b → After (take n block')
      by true e = none_ends n (eqb-true n 0 e) (a.stands ∙ rw e) (a.text ∙ rw e)
      by false e = some_open n (record { stands = a.stands ∙ rw e; text = a.text ∙ rw e })

pub arrives_length : {block line line' : List ℕ} {i r : Input} (got : Result ℕ ReadFailed) → Arrives block line i got r line' → length line' ≡ length line
arrives_length (Err _) a = ap length a.text
arrives_length {block} {line} {i = i} (Ok n) a = ap length a.text ∙ by (eqb n 0)
  where
    by : (b : Bool) → length (cond b line (over (in_hand block line (fresh n i)) line)) ≡ length line
    by true = refl
    by false = over_length (in_hand block line (fresh n i)) line

-- ---- from turn to turn

open_of : {f : List ℕ → List ℕ} {came told block line : List ℕ} {i : Input} → Outcome f came told block line i → i.ended ≡ false
    → Open f came told block line i
open_of (on e o) h = o
open_of (all e g t) h = let z : ◌≡◌ {A = ℕ} 0 1 = cc in absurd (omega arith)
open_of (cut e g d p l t) h = let z : ◌≡◌ {A = ℕ} 0 1 = cc in absurd (omega arith)

pub enough_as : {f : List ℕ → List ℕ} {line out line' out' : List ℕ} → length line ≡ length line' → length out ≡ length out' → Enough f line out
    → Enough f line' out'
enough_as {f} l o e =
    record {
      tells = λ text. ap (λ (n : ℕ). f (take n text)) (sym l) ∙ e.tells text;
      some = omega (arith, l, e.some);
      room = omega (arith, o, e.room);
    }

told_as : {f : List ℕ → List ℕ} {came told told' block line : List ℕ} {i : Input} → told ≡ told' → Outcome f came told block line i
    → Outcome f came told' block line i
told_as {f} {came} {told} {told'} {block} {line} {i} e o = subst (λ (t : List ℕ). Outcome f came t block line i) e o

pub outcome : {f : List ℕ → List ℕ} {came gone block line out : List ℕ} {i : Input} {q : Queue} → Ran f came gone block line i out q
    → Enough f line out → Outcome f came (gone ++ waits q out) block line i
unfolding answers taken_on
outcome {line = line} begun e = on refl (record { done = []; part = []; lines = λ more. refl; kept = sym (take-nil (length line)); put = refl })
outcome (goes {gone = gone} h n m t j) e =
    let before = enough_as (takes_length t) (joins_length j) e in
    told_as (sym (joins_told gone before.room j))
    (on (ap (λ (x : Input). x.ended) t.stands ∙ n) (taken_open before.tells (open_of (outcome h before) n) t))
outcome (reads {gone = gone} h n m a j) e =
    let before = enough_as (arrives_length a.got a.arrives) (joins_length j) e in
    told_as (sym (joins_told gone before.room j))
    (arrived before.tells before.some (open_of (outcome h before) n) m _ _ _ a.got a.arrives)
