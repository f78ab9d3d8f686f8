-- The first place of a character in a text, which ends a word or stands behind its bytes. Assumes nothing.
use mathlib.Core.Path.{◌≡◌}
use mathlib.Core.Bool.{Bool, true, false, cond}
use mathlib.Core.List.{List, [], ◌∷◌}
use Prim.Native.Nat.{ℕ, suc, ◌+◌, ◌≤◌, ◌<◌}
use native.Mathlib.Numerals.{add-one}
use native.Mathlib.Omega.{arith}
use borrow.Author.Tests.{eq-eqb, ne_eqb}
use lib.Dec.{eqb}
use lib.ListN.{length, drop, get_or, drop_of_length-le}
use lib.Seq.{drop-cons}
use Rattle.words.specs.Words.{up_to}

-- ---- the loop of `until`

module _ (c : ℕ) (text : List ℕ) (i : ℕ) where
  pub up_end : length text ≤ i → up_to c (drop i text) ≡ 0
  unfolding up_to
  up_end h = rw (drop_of_length-le text {i = i} h)

  module _ (h : i < length text) where
    pub up_here : get_or text i 0 ≡ c → up_to c (drop i text) ≡ 0
    unfolding up_to
    up_here e = rw (drop-cons text i 0 h, eq-eqb (get_or text i 0) c e)

    pub up_on : (get_or text i 0 ≡ c → ⊥) → up_to c (drop i text) ≡ suc (up_to c (drop (i + 1) text))
    unfolding up_to
    up_on n = rw (drop-cons text i 0 h, ne_eqb (get_or text i 0) c n, add-one i)

-- behind no character, and behind one more that is none
module _ (c : ℕ) (text : List ℕ) (at : ℕ) where
  pub up_nowhere : up_to c (drop at text) ≡ 0 + up_to c (drop (at + 0) text)
  up_nowhere = let same : at + 0 ≡ at = omega arith in rw same (omega arith)

  pub up_behind : (j : ℕ) → at + j < length text → up_to c (drop at text) ≡ j + up_to c (drop (at + j) text) → (get_or text (at + j) 0 ≡ c → ⊥)
      → up_to c (drop at text) ≡ j + 1 + up_to c (drop (at + (j + 1)) text)
  up_behind j h e n =
      let same : at + (j + 1) ≡ at + j + 1 = omega arith in
      rw same (omega (arith, e, up_on c text (at + j) h n))

-- ---- what a caller may cut out

pub up_within : (c : ℕ) (text : List ℕ) → up_to c text ≤ length text
unfolding up_to
up_within c [] = omega arith
up_within c (d ∷ text) = by (eqb d c) (up_within c text)
  where
    by : (b : Bool) → up_to c text ≤ length text → cond b 0 (suc (up_to c text)) ≤ suc (length text)
    by true h = omega arith
    by false h = omega arith
