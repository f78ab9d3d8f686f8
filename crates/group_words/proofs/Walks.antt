-- The words of a line from a place on, and the first of them as a telegram. Assumes nothing.
use mathlib.Core.Path.{◌≡◌, refl}
use mathlib.Core.Bool.{Bool, true, false, cond}
use mathlib.Core.List.{List, [], ◌∷◌}
use mathlib.Core.Option.{Option, some, none}
use Prim.Native.Nat.{ℕ, zero, suc, ◌+◌, ◌-◌, ◌≤◌, ◌<◌}
use native.Mathlib.Omega.{arith}
use borrow.Author.Tests.{le-leb, lt-leb, leb-true, leb-false}
use lib.Dec.{leb}
use lib.ListN.{length, take, drop, length-drop}
use Rattle.words.specs.Words.{word_end, words_in}
use Rattle.words.proofs.Marks.{up_within}
use Rattle.words.proofs.Splits.{word_here, word_there}
use Rattle.telegram_word.specs.Telegrams.{Telegram, telegram_in}
use Rattle.group_words.specs.Lines.{joined, telegrams_in}

-- ---- the words from a place on; none behind the end of the line

abbrev pub words_from : List ℕ → ℕ → List (List ℕ)
words_from line at = cond (leb at (length line)) (words_in (drop at line)) []

pub words_all : (line : List ℕ) → words_from line 0 ≡ words_in line
words_all line = rw (le-leb 0 (length line) (omega arith))

pub words_none : (line : List ℕ) (at : ℕ) → length line < at → words_from line at ≡ []
words_none line at h = rw (lt-leb at (length line) h)

module _ (line : List ℕ) (at end : ℕ) (e : end ≡ word_end line at) (h : at ≤ length line) where
  pub end_inside : end ≤ length line
  end_inside = let l = length-drop at line in let u = up_within 32 (drop at line) in omega arith

  next_by : (b : Bool) → leb (length line) (word_end line at) ≡ b
      → words_in (drop at line) ≡ take (word_end line at - at) (drop at line) ∷ words_from line (word_end line at + 1)
  next_by true t =
      let g = leb-true (length line) (word_end line at) t in
      rw (lt-leb (word_end line at + 1) (length line) (omega arith)) (word_there line at g)
  next_by false t =
      let g = leb-false (length line) (word_end line at) t in
      rw (le-leb (word_end line at + 1) (length line) (omega arith)) (word_here line at g)

  -- the first of them, and those from behind its end on
  pub words_next : words_from line at ≡ take (end - at) (drop at line) ∷ words_from line (end + 1)
  words_next = rw (le-leb at (length line) h, e) (next_by (leb (length line) (word_end line at)) refl)

-- ---- where all of some words are telegrams, the first is one, and so are the others

pub record Next (k : ℕ) (word : List ℕ) (words : List (List ℕ)) (left : List Telegram) : Type 0 where
  pub telegram : Telegram
  pub rest : List Telegram
  pub is : telegram_in word ≡ some telegram
  pub splits : left ≡ telegram ∷ rest
  pub less : ℕ
  pub one_less : k ≡ suc less
  pub on : telegrams_in less words ≡ some rest

next_of : (k : ℕ) (word : List ℕ) (words : List (List ℕ)) (left : List Telegram) (o : Option Telegram) (r : Option (List Telegram))
    → telegram_in word ≡ o → telegrams_in k words ≡ r → joined o r ≡ some left → Next (suc k) word words left
next_of k word words left none r x y e = let z : ◌≡◌ {A = ℕ} 0 1 = cc in absurd (omega arith)
next_of k word words left (some t) none x y e = let z : ◌≡◌ {A = ℕ} 0 1 = cc in absurd (omega arith)
next_of k word words left (some t) (some ts) x y e = record { telegram = t; rest = ts; is = x; splits = cc; less = k; one_less = refl; on = y }

pub next : (k : ℕ) (word : List ℕ) (words : List (List ℕ)) (left : List Telegram) → telegrams_in k (word ∷ words) ≡ some left → Next k word words left
unfolding telegrams_in
next zero word words left e = let z : ◌≡◌ {A = ℕ} 0 1 = cc in absurd (omega arith)
next (suc k) word words left e = next_of k word words left (telegram_in word) (telegrams_in k words) refl refl e
