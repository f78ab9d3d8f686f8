-- A text taken apart into lines, from its front; and the answers to lines. Assumes nothing.
use mathlib.Core.Path.{◌≡◌, refl, sym, ap, ◌∙◌}
use mathlib.Core.Bool.{Bool, true, false, cond}
use mathlib.Core.List.{List, [], ◌∷◌, ◌++◌, append-nil, append_assoc, drop_last}
use Prim.Native.Nat.{ℕ, suc, ◌≤◌, ◌<◌}
use native.Mathlib.Omega.{arith}
use lib.Dec.{eqb}
use lib.ListN.{length, take, drop}
use lib.Seq.{append_snoc}
use Rattle.words.specs.Words.{up_to}
use Rattle.line_by_line.specs.Lines.{in_front, lines_of, whole_lines, answers}

-- ---- what stands in front of lines

front_line : (part line : List ℕ) (lines : List (List ℕ)) → in_front part (line ∷ lines) ≡ (part ++ line) ∷ lines
front_line [] line lines = refl
front_line (c ∷ part) line lines = refl

front_more : (part : List ℕ) (c : ℕ) (lines : List (List ℕ)) → in_front part (in_front (c ∷ []) lines) ≡ in_front (part ++ (c ∷ [])) lines
front_more [] c lines = refl
front_more (b ∷ part) c [] = refl
front_more (b ∷ part) c (line ∷ lines) = ap (λ (l : List ℕ). (b ∷ l) ∷ lines) (sym (append_snoc part c line))

-- ---- a text up to its first newline, or with none, behind the beginning of a line

module _ (more : List ℕ) where
  abbrev Ends : List ℕ → List ℕ → Type 0
  Ends part text =
      up_to 10 text < length text
      → in_front part (lines_of (text ++ more)) ≡ (part ++ take (up_to 10 text) text) ∷ lines_of (drop (suc (up_to 10 text)) text ++ more)

  pub line_ends : (part text : List ℕ) → Ends part text
  unfolding lines_of up_to
  line_ends part [] h = absurd (omega arith)
  line_ends part (c ∷ text) h = by (eqb c 10) (line_ends (part ++ (c ∷ [])) text) h
    where
      by : (b : Bool) → Ends (part ++ (c ∷ [])) text → cond b 0 (suc (up_to 10 text)) < suc (length text)
          → in_front part (cond b ([] ∷ lines_of (text ++ more)) (in_front (c ∷ []) (lines_of (text ++ more))))
          ≡ (part ++ take (cond b 0 (suc (up_to 10 text))) (c ∷ text)) ∷ lines_of (drop (suc (cond b 0 (suc (up_to 10 text)))) (c ∷ text) ++ more)
      by true others g = front_line part [] (lines_of (text ++ more))
      by false others g =
          front_more part c (lines_of (text ++ more))
          ∙ others (omega arith)
          ∙ ap (λ (l : List ℕ). l ∷ lines_of (drop (suc (up_to 10 text)) text ++ more)) (append_snoc part c (take (up_to 10 text) text))

  abbrev Lasts : List ℕ → List ℕ → Type 0
  Lasts part text = length text ≤ up_to 10 text → in_front part (lines_of (text ++ more)) ≡ in_front (part ++ text) (lines_of more)

  pub line_lasts : (part text : List ℕ) → Lasts part text
  unfolding lines_of up_to
  line_lasts part [] h = ap (λ (l : List ℕ). in_front l (lines_of more)) (sym (append-nil part))
  line_lasts part (c ∷ text) h = by (eqb c 10) (line_lasts (part ++ (c ∷ [])) text) h
    where
      by : (b : Bool) → Lasts (part ++ (c ∷ [])) text → suc (length text) ≤ cond b 0 (suc (up_to 10 text))
          → in_front part (cond b ([] ∷ lines_of (text ++ more)) (in_front (c ∷ []) (lines_of (text ++ more))))
          ≡ in_front (part ++ (c ∷ text)) (lines_of more)
      by true others g = absurd (omega arith)
      by false others g =
          front_more part c (lines_of (text ++ more))
          ∙ others (omega arith)
          ∙ ap (λ (l : List ℕ). in_front l (lines_of more)) (append_snoc part c text)

-- ---- answers

pub answers_append : (f : List ℕ → List ℕ) (a b : List (List ℕ)) → answers f (a ++ b) ≡ answers f a ++ answers f b
unfolding answers
answers_append f [] b = refl
answers_append f (line ∷ a) b = ap (λ (l : List ℕ). f line ++ l) (answers_append f a b) ∙ sym (append_assoc (f line) (answers f a) (answers f b))

pub answers_one : (f : List ℕ → List ℕ) (done : List (List ℕ)) (line : List ℕ) → answers f (done ++ (line ∷ [])) ≡ answers f done ++ f line
unfolding answers
answers_one f done line = answers_append f done (line ∷ []) ∙ ap (λ (l : List ℕ). answers f done ++ l) (append-nil (f line))

-- ---- all lines but one that is only begun

last_off : (done : List (List ℕ)) (line : List ℕ) → drop_last (done ++ (line ∷ [])) ≡ done
last_off [] line = refl
last_off (a ∷ []) line = refl
last_off (a ∷ b ∷ done) line = ap (λ (l : List (List ℕ)). a ∷ l) (last_off (b ∷ done) line)

pub whole_done : (came part : List ℕ) (done : List (List ℕ)) → ((more : List ℕ) → lines_of (came ++ more) ≡ done ++ in_front part (lines_of more))
    → whole_lines came ≡ done
unfolding lines_of
whole_done came part done h = ap drop_last (h (10 ∷ []) ∙ ap (λ (l : List (List ℕ)). done ++ l) (front_line part [] [])) ∙ last_off done (part ++ [])
