-- One step of reading, by the lines of all that came: those that are done, and the beginning of one that is in hand. Assumes nothing.
use mathlib.Core.Path.{◌≡◌, refl, sym, ap, ap₂, ◌∙◌}
use mathlib.Core.Bool.{Bool, true, false, cond}
use mathlib.Core.List.{List, [], ◌∷◌, ◌++◌, append-nil, append_assoc}
use Prim.Native.Nat.{ℕ, suc, ◌+◌, ◌≤◌, min}
use native.Mathlib.Nat.{lt_of_not-le}
use native.Mathlib.Decide.{dec_le}
use native.Mathlib.Omega.{arith}
use borrow.Author.Tests.{ltb-true, ltb-false}
use lib.ListN.{length, take, drop, length-take, length-drop, length-append, drop_of_length-le}
use lib.Seq.{take_all, take-nil, take-take, take-append-le, take-append_seam, length-take-le, append_snoc, drop-drop}
use Rattle.blocks.specs.Ends.{up_to_end, ends}
use Rattle.blocks.specs.Reading.{left, held, fitting, over, in_hand, stop, taken_on, TakesOn, fresh}
use Rattle.blocks.specs.declared.Input.{Input}
use Rattle.line_by_line.specs.Lines.{in_front, lines_of, answers}
use Rattle.line_by_line.specs.Running.{reply}
use Rattle.line_by_line.proofs.Splits.{line_ends, line_lasts, answers_one}

-- ---- parts of lists

take_kept : (n : ℕ) (a b : List ℕ) → take n (take n a ++ b) ≡ take n (a ++ b)
take_kept n a b = by (dec_le (length a) n)
  where
    by : Dec (length a ≤ n) → take n (take n a ++ b) ≡ take n (a ++ b)
    by (yes h) = ap (λ (l : List ℕ). take n (l ++ b)) (take_all n a h)
    by (no h) =
        let l = lt_of_not-le h in
        take-append-le n (take n a) b (omega (arith, length-take-le n a (omega arith)))
        ∙ take-take n n a (omega arith)
        ∙ sym (take-append-le n a b (omega arith))

take_least : (n : ℕ) (l : List ℕ) → take (min n (length l)) l ≡ take n l
take_least n l = by (dec_le (length l) n)
  where
    by : Dec (length l ≤ n) → take (min n (length l)) l ≡ take n l
    by (yes h) = take_all (min n (length l)) l (omega arith) ∙ sym (take_all n l h)
    by (no h) = let g = lt_of_not-le h in let same : min n (length l) ≡ n = omega arith in ap (λ (k : ℕ). take k l) same

pub none_left : (block : List ℕ) (i : Input) → i.to ≤ i.from → left block i ≡ []
none_left block i h = drop_of_length-le (take i.to block) {i = i.from} (omega (arith, length-take i.to block))

pub over_length : (text line : List ℕ) → length (over text line) ≡ length line
over_length text line =
    let n : ℕ = length (fitting text line) in
    omega (arith, length-append (fitting text line) (drop n line), length-drop n line, length-take (length line) text)

pub held_front : (line : List ℕ) (i : Input) → take (length (held line i)) line ≡ held line i
held_front line i = by i.whole
  where
    by : (b : Bool) → take (length (cond b [] (take i.kept line))) line ≡ cond b [] (take i.kept line)
    by true = refl
    by false = ap (λ (n : ℕ). take n line) (length-take i.kept line) ∙ take_least i.kept line

-- ---- where the program stands before the end of the input

-- the lines that are done, and what stands behind the last of them in what was taken on
pub record Open (f : List ℕ → List ℕ) (came told block line : List ℕ) (i : Input) : Type 0 where
  pub done : List (List ℕ)
  pub part : List ℕ
  pub lines : (more : List ℕ) → lines_of (came ++ more) ≡ done ++ in_front part (lines_of (left block i ++ more))
  pub kept : held line i ≡ take (length line) part
  pub put : told ≡ answers f done

-- ---- a block taken on

pub takes_length : {block line line' : List ℕ} {i r : Input} → TakesOn block line i r line' → length line' ≡ length line
takes_length {block} {line} {i = i} g = ap length g.text ∙ over_length (in_hand block line i) line

module _ {f : List ℕ → List ℕ} {came told block line line' : List ℕ} {i r : Input} (tells : (text : List ℕ) → f (take (length line) text) ≡ f text)
    (o : Open f came told block line i) (g : TakesOn block line i r line') where
  abbrev rest : List ℕ
  rest = left block i

  abbrev text : List ℕ
  text = o.part ++ take (up_to_end rest) rest

  kept_is : take r.kept line' ≡ take (length line) text
  unfolding in_hand taken_on
  kept_is =
      ap₂ (λ (n : ℕ) (l : List ℕ). take n l) (ap (λ (x : Input). x.kept) g.stands) g.text
      ∙ take-append_seam (fitting (in_hand block line i) line) (drop (length (fitting (in_hand block line i) line)) line)
      ∙ ap (λ (l : List ℕ). take (length line) (l ++ take (up_to_end rest) rest)) o.kept
      ∙ take_kept (length line) o.part (take (up_to_end rest) rest)

  to_is : r.to ≡ stop block i
  unfolding taken_on
  to_is = ap (λ (x : Input). x.to) g.stands

  whole_is : r.whole ≡ ends rest
  unfolding taken_on
  whole_is = ap (λ (x : Input). x.whole) g.stands

  from_is : r.from ≡ cond (ends rest) (i.from + up_to_end rest + 1) (stop block i)
  unfolding taken_on
  from_is = ap (λ (x : Input). x.from) g.stands

  -- a newline ends the line in hand
  module _ (e : ends rest ≡ true) where
    left_behind : drop (suc (up_to_end rest)) rest ≡ left block r
    left_behind =
        let from : r.from ≡ i.from + suc (up_to_end rest) = from_is ∙ rw e (omega arith) in
        drop-drop (suc (up_to_end rest)) i.from (take i.to block)
        ∙ sym (ap₂ (λ (n : ℕ) (l : List ℕ). drop n l) from (ap (λ (n : ℕ). take n block) to_is ∙ take_least i.to block))

    replied : reply f line' r ≡ f text
    replied = ap (λ (b : Bool). cond b (f (take r.kept line')) []) (whole_is ∙ e) ∙ ap f kept_is ∙ tells text

    line_done : Open f came (told ++ reply f line' r) block line' r
    line_done =
        record {
          done = o.done ++ (text ∷ []);
          part = [];
          lines = λ more.
              o.lines more
              ∙ ap (λ (l : List (List ℕ)). o.done ++ l) (line_ends more o.part rest (ltb-true _ _ e))
              ∙ sym (append_snoc o.done text (lines_of (drop (suc (up_to_end rest)) rest ++ more)))
              ∙ ap (λ (l : List ℕ). (o.done ++ (text ∷ [])) ++ lines_of (l ++ more)) left_behind;
          kept = rw (whole_is ∙ e) (sym (take-nil (length line')));
          put = ap₂ (λ (a b : List ℕ). a ++ b) o.put replied ∙ sym (answers_one f o.done text);
        }

  -- it goes on behind the block
  module _ (e : ends rest ≡ false) where
    nothing_left : left block r ≡ []
    nothing_left =
        let from : r.from ≡ stop block i = from_is ∙ rw e in
        none_left block r (omega (arith, from, to_is))

    all_taken : text ≡ o.part ++ rest
    all_taken = ap (λ (l : List ℕ). o.part ++ l) (take_all (up_to_end rest) rest (ltb-false _ _ e))

    line_begun : Open f came (told ++ reply f line' r) block line' r
    line_begun =
        record {
          done = o.done;
          part = o.part ++ rest;
          lines = λ more.
              o.lines more
              ∙ ap (λ (l : List (List ℕ)). o.done ++ l) (line_lasts more o.part rest (ltb-false _ _ e))
              ∙ ap (λ (l : List ℕ). o.done ++ in_front (o.part ++ rest) (lines_of (l ++ more))) (sym nothing_left);
          kept = rw (whole_is ∙ e) (kept_is ∙ ap₂ (λ (n : ℕ) (l : List ℕ). take n l) (sym (takes_length g)) all_taken);
          put = rw (whole_is ∙ e) (append-nil told ∙ o.put);
        }

  pub taken_open : Open f came (told ++ reply f line' r) block line' r
  taken_open = by (ends rest) refl
    where
      by : (b : Bool) → ends rest ≡ b → Open f came (told ++ reply f line' r) block line' r
      by true e = line_done e
      by false e = line_begun e

-- ---- a block read, where nothing is left of the one before

module _ {f : List ℕ → List ℕ} {came told block line : List ℕ} {i : Input} (o : Open f came told block line i) (few : i.to ≤ i.from) where
  pub lines_read : (more : List ℕ) → lines_of (came ++ more) ≡ o.done ++ in_front o.part (lines_of more)
  lines_read more = o.lines more ∙ ap (λ (l : List ℕ). o.done ++ in_front o.part (lines_of (l ++ more))) (none_left block i few)

  pub fresh_open : (block' : List ℕ) (n : ℕ) → Open f (came ++ take n block') told block' line (fresh n i)
  fresh_open block' n =
      record {
        done = o.done;
        part = o.part;
        lines = λ more. ap lines_of (append_assoc came (take n block') more) ∙ lines_read (take n block' ++ more);
        kept = o.kept;
        put = o.put;
      }
