-- A line is taken apart into its words by the ends that `word_end` finds, and put together again. Assumes nothing.
use mathlib.Core.Path.{◌≡◌, refl, sym, ap, ap₂, ◌∙◌}
use mathlib.Core.Bool.{Bool, true, false, cond}
use mathlib.Core.List.{List, [], ◌∷◌, ◌++◌}
use Prim.Native.Nat.{ℕ, suc, ◌+◌, ◌-◌, ◌≤◌, ◌<◌}
use native.Mathlib.Omega.{arith}
use borrow.Author.Tests.{eqb-true}
use lib.Dec.{eqb}
use lib.ListN.{length, take, drop, length-drop}
use lib.Seq.{take_all, drop-drop}
use Rattle.words.specs.Words.{up_to, word_end, onto, words_in, line_of}

-- ---- the first word of a text, and those behind it

module _ (c : ℕ) (text : List ℕ) where
  first_by : (b : Bool)
      → (up_to 32 text < length text → words_in text ≡ take (up_to 32 text) text ∷ words_in (drop (suc (up_to 32 text)) text))
      → cond b 0 (suc (up_to 32 text)) < suc (length text)
      → cond b ([] ∷ words_in text) (onto c (words_in text))
      ≡ take (cond b 0 (suc (up_to 32 text))) (c ∷ text) ∷ words_in (drop (suc (cond b 0 (suc (up_to 32 text)))) (c ∷ text))
  first_by true ih h = refl
  first_by false ih h = ap (onto c) (ih (omega arith))

  last_by : (b : Bool) → (length text ≤ up_to 32 text → words_in text ≡ text ∷ []) → suc (length text) ≤ cond b 0 (suc (up_to 32 text))
      → cond b ([] ∷ words_in text) (onto c (words_in text)) ≡ (c ∷ text) ∷ []
  last_by true ih h = absurd (omega arith)
  last_by false ih h = ap (onto c) (ih (omega arith))

words_first : (text : List ℕ) → up_to 32 text < length text → words_in text ≡ take (up_to 32 text) text ∷ words_in (drop (suc (up_to 32 text)) text)
unfolding up_to words_in
words_first [] h = absurd (omega arith)
words_first (c ∷ text) h = first_by c text (eqb c 32) (words_first text) h

words_last : (text : List ℕ) → length text ≤ up_to 32 text → words_in text ≡ text ∷ []
unfolding up_to words_in
words_last [] h = refl
words_last (c ∷ text) h = last_by c text (eqb c 32) (words_last text) h

-- ---- the same by the ends of words, from any place of a line on

module _ (line : List ℕ) (at : ℕ) where
  -- a space ends the word: the others begin behind it
  pub word_here : word_end line at < length line
      → words_in (drop at line) ≡ take (word_end line at - at) (drop at line) ∷ words_in (drop (word_end line at + 1) line)
  word_here h =
      let k : ℕ = up_to 32 (drop at line) in
      let l = length-drop at line in
      let count : word_end line at - at ≡ k = omega arith in
      let behind : at + suc k ≡ word_end line at + 1 = omega arith in
      words_first (drop at line) (omega arith)
      ∙ ap₂ (λ (m : ℕ) (rest : List ℕ). take m (drop at line) ∷ words_in rest) (sym count)
      (drop-drop (suc k) at line ∙ ap (λ (m : ℕ). drop m line) behind)

  -- the line ends it: it is the last
  pub word_there : length line ≤ word_end line at → words_in (drop at line) ≡ take (word_end line at - at) (drop at line) ∷ []
  word_there h =
      let l = length-drop at line in
      words_last (drop at line) (omega arith)
      ∙ ap (λ (word : List ℕ). word ∷ []) (sym (take_all (word_end line at - at) (drop at line) (omega arith)))

-- ---- together again

-- no word has a space
abbrev pub Spaceless : List (List ℕ) → Type 0
Spaceless [] = Unit
Spaceless (word ∷ others) = (up_to 32 word ≡ length word) × Spaceless others

module _ (c : ℕ) (word : List ℕ) where
  free_by : (b : Bool) → eqb c 32 ≡ b → cond b 0 (suc (up_to 32 word)) ≡ suc (length word) → (eqb c 32 ≡ false) × (up_to 32 word ≡ length word)
  free_by true e h = absurd (omega arith)
  free_by false e h = (e, omega arith)

  free : up_to 32 (c ∷ word) ≡ length (c ∷ word) → (eqb c 32 ≡ false) × (up_to 32 word ≡ length word)
  unfolding up_to
  free h = free_by (eqb c 32) refl h

words_of_one : (word : List ℕ) → up_to 32 word ≡ length word → words_in word ≡ word ∷ []
words_of_one word h = words_last word (omega arith)

words_before : (word rest : List ℕ) → up_to 32 word ≡ length word → words_in (word ++ (32 ∷ rest)) ≡ word ∷ words_in rest
unfolding words_in
words_before [] rest h = refl
words_before (c ∷ word) rest h =
    let f = free c word h in
    rw f.0 (ap (onto c) (words_before word rest f.1))

-- words joined by single spaces, and taken apart again
pub words_line : (word : List ℕ) (others : List (List ℕ)) → Spaceless (word ∷ others) → words_in (line_of (word ∷ others)) ≡ word ∷ others
unfolding line_of
words_line word [] s = words_of_one word s.0
words_line word (next ∷ others) s =
    words_before word (line_of (next ∷ others)) s.0 ∙ ap (λ (l : List (List ℕ)). word ∷ l) (words_line next others s.1)

-- a line taken apart, and joined again: so no two lines have the same words
line_onto : (c : ℕ) (words : List (List ℕ)) (line : List ℕ) → line_of words ≡ line → line_of (onto c words) ≡ c ∷ line
unfolding line_of
line_onto c [] line e = ap (λ (l : List ℕ). c ∷ l) e
line_onto c (word ∷ []) line e = ap (λ (l : List ℕ). c ∷ l) e
line_onto c (word ∷ next ∷ others) line e = ap (λ (l : List ℕ). c ∷ l) e

record Some (words : List (List ℕ)) : Type 0 where
  pub word : List ℕ
  pub others : List (List ℕ)
  pub is : words ≡ word ∷ others

onto_some : (c : ℕ) (words : List (List ℕ)) → Some (onto c words)
onto_some c [] = record { word = c ∷ []; others = []; is = refl }
onto_some c (word ∷ others) = record { word = c ∷ word; others = others; is = refl }

words_some : (line : List ℕ) → Some (words_in line)
unfolding words_in
words_some [] = record { word = []; others = []; is = refl }
words_some (c ∷ line) = by (eqb c 32)
  where
    by : (b : Bool) → Some (cond b ([] ∷ words_in line) (onto c (words_in line)))
    by true = record { word = []; others = words_in line; is = refl }
    by false = onto_some c (words_in line)

line_space : (words : List (List ℕ)) → Some words → line_of ([] ∷ words) ≡ 32 ∷ line_of words
unfolding line_of
line_space words s = rw s.is

pub line_words : (line : List ℕ) → line_of (words_in line) ≡ line
unfolding words_in line_of
line_words [] = refl
line_words (c ∷ line) = by (eqb c 32) refl (line_words line)
  where
    by : (b : Bool) → eqb c 32 ≡ b → line_of (words_in line) ≡ line → line_of (cond b ([] ∷ words_in line) (onto c (words_in line))) ≡ c ∷ line
    by true e ih = line_space (words_in line) (words_some line) ∙ ap₂ (λ (d : ℕ) (l : List ℕ). d ∷ l) (sym (eqb-true c 32 e)) ih
    by false e ih = line_onto c (words_in line) line ih
