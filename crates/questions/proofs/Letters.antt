-- Lines by their letter, and what stands behind it. Assumes nothing.
use Rattle.std.specs.Prelude.{Some, None, Option, ℕ}
use mathlib.Core.Path.{◌≡◌, refl, sym, ap, ◌∙◌}
use mathlib.Core.Bool.{Bool, true, false}
use mathlib.Core.List.{List, [], ◌∷◌}
use Prim.Native.Nat.{ℕ, ◌-◌, ◌≤◌}
use native.Mathlib.Omega.{arith}
use borrow.Author.Tests.{eq-eqb, ne_eqb}
use lib.ListN.{length, take, drop, get_or, length-drop}
use lib.Seq.{take_all}
use Rattle.answer_text.specs.Texts.{no_question}
use Rattle.replies.specs.Replies.{bits_text, write_text}
use Rattle.questions.specs.Questions.{written, values_behind, bits_behind, asked, reply_to}
use Rattle.value_list.specs.Values.{values_in, Taken}
use Rattle.value_list.proofs.Answers.{taken_whole, taken_other}

-- the part from 1 to the end
pub tail_is : (l : List ℕ) → take (length l - 1) (drop 1 l) ≡ drop 1 l
tail_is l = take_all (length l - 1) (drop 1 l) (omega (arith, length-drop 1 l))

-- ---- the line

pub reply_none : (line : List ℕ) → length line ≡ 0 → no_question ≡ reply_to line
unfolding reply_to
reply_none [] e = refl
reply_none (c ∷ line) e = absurd (omega arith)

asked_is : (line : List ℕ) → (length line ≡ 0 → ⊥) → asked (get_or line 0 0) (drop 1 line) ≡ reply_to line
unfolding reply_to
asked_is [] n = absurd (n refl)
asked_is (c ∷ line) n = refl

module _ (line : List ℕ) (some_left : length line ≡ 0 → ⊥) where
  pub reply_read : get_or line 0 0 ≡ 114 → bits_behind false (take (length line - 1) (drop 1 line)) ≡ reply_to line
  reply_read e = ap (bits_behind false) (tail_is line) ∙ sym (rw (eq-eqb (get_or line 0 0) 114 e)) ∙ asked_is line some_left

  module _ (a : get_or line 0 0 ≡ 114 → ⊥) where
    pub reply_normal : get_or line 0 0 ≡ 110 → bits_behind true (take (length line - 1) (drop 1 line)) ≡ reply_to line
    reply_normal e =
        ap (bits_behind true) (tail_is line) ∙ sym (rw (ne_eqb (get_or line 0 0) 114 a, eq-eqb (get_or line 0 0) 110 e)) ∙ asked_is line some_left

    module _ (b : get_or line 0 0 ≡ 110 → ⊥) where
      pub reply_write : get_or line 0 0 ≡ 119 → values_behind (take (length line - 1) (drop 1 line)) ≡ reply_to line
      reply_write e =
          ap values_behind (tail_is line)
          ∙ sym (rw (ne_eqb (get_or line 0 0) 114 a, ne_eqb (get_or line 0 0) 110 b, eq-eqb (get_or line 0 0) 119 e)) ∙ asked_is line some_left

      pub reply_other : (get_or line 0 0 ≡ 119 → ⊥) → no_question ≡ reply_to line
      reply_other e =
          sym (rw (ne_eqb (get_or line 0 0) 114 a, ne_eqb (get_or line 0 0) 110 b, ne_eqb (get_or line 0 0) 119 e)) ∙ asked_is line some_left

-- ---- behind `r` and `n`

module _ (normal : Bool) where
  pub bits_none : (l : List ℕ) → length l ≡ 0 → bits_text normal l ≡ bits_behind normal l
  unfolding bits_behind
  bits_none [] e = refl
  bits_none (c ∷ l) e = absurd (omega arith)

  behind_space : (l : List ℕ) → (length l ≡ 0 → ⊥) → get_or l 0 0 ≡ 32 → bits_text normal (drop 1 l) ≡ bits_behind normal l
  unfolding bits_behind
  behind_space [] n e = absurd (n refl)
  behind_space (c ∷ l) n e = rw (eq-eqb c 32 e)

  pub bits_some : (l : List ℕ) → (length l ≡ 0 → ⊥) → get_or l 0 0 ≡ 32 → bits_text normal (take (length l - 1) (drop 1 l)) ≡ bits_behind normal l
  bits_some l n e = ap (bits_text normal) (tail_is l) ∙ behind_space l n e

  pub bits_other : (l : List ℕ) → (length l ≡ 0 → ⊥) → (get_or l 0 0 ≡ 32 → ⊥) → no_question ≡ bits_behind normal l
  unfolding bits_behind
  bits_other [] n e = absurd (n refl)
  bits_other (c ∷ l) n e = rw (ne_eqb c 32 e)

-- ---- behind `w`

module _ (text before : List ℕ) (x : Option ℕ) (after : List ℕ) (room : length before ≡ 1000) (h : Taken text before x after) where
  pub count_within : (n : ℕ) → x ≡ Some n → n ≤ length after
  count_within n e = (taken_whole text before x after h n e).inside

  of_room : written (values_in (length before) text) ≡ values_behind text
  unfolding values_behind
  of_room = ap (λ (k : ℕ). written (values_in k text)) room

  pub values_some : (n : ℕ) → x ≡ Some n → write_text (take n after) ≡ values_behind text
  values_some n e = sym (ap written (taken_whole text before x after h n e).values) ∙ of_room

  pub values_none : x ≡ None → no_question ≡ values_behind text
  values_none e = sym (ap written (taken_other text before x after h e)) ∙ of_room
