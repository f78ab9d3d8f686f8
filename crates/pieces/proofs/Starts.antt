-- What a text begins with, and a piece put into it. Assumes nothing.
use mathlib.Core.Path.{◌≡◌, refl, sym, ap, ◌∙◌}
use mathlib.Core.Bool.{Bool, true, false, ◌&&◌}
use mathlib.Core.List.{List, [], ◌∷◌, ◌++◌}
use Prim.Native.Nat.{ℕ, ◌+◌, ◌-◌, ◌≤◌, ◌<◌}
use native.Mathlib.Numerals.{add-one}
use native.Mathlib.Omega.{arith}
use borrow.Author.Tests.{eq-eqb, ne_eqb, eqb-true, le-leb, lt-leb}
use lib.Dec.{eqb}
use lib.ListN.{length, take, drop, get_or, length-append, length-drop, drop_of_length-le}
use lib.Seq.{drop-cons, take-length, take_all, take_at, paste, drop-append-add, drop-drop}
use Rattle.pieces.specs.Pieces.{begins, over, past, Appended, Grown}

-- ---- begins

-- a piece is what a text begins with, if it is put in front
pub begins_front : (piece rest : List ℕ) → begins piece (piece ++ rest) ≡ true
unfolding begins
begins_front [] rest = refl
begins_front (c ∷ piece) rest = rw (eq-eqb c c refl, begins_front piece rest)

-- and then only
module _ (c d : ℕ) (piece text : List ℕ) (ih : begins piece text ≡ true → text ≡ piece ++ drop (length piece) text) where
  is_by : (p q : Bool) → eqb c d ≡ p → begins piece text ≡ q → (p && q) ≡ true → d ∷ text ≡ (c ∷ piece) ++ drop (length piece) text
  is_by true true x y z = rw (eqb-true c d x) (ap (λ (l : List ℕ). d ∷ l) (ih y))
  is_by true false x y z = cc
  is_by false q x y z = cc

pub begins_is : (piece text : List ℕ) → begins piece text ≡ true → text ≡ piece ++ drop (length piece) text
unfolding begins
begins_is [] text e = refl
begins_is (c ∷ piece) [] e = cc
begins_is (c ∷ piece) (d ∷ text) e = is_by c d piece text (begins_is piece text) (eqb c d) (begins piece text) refl refl e

-- ---- the loop of `begins`

module _ (piece text : List ℕ) (i j : ℕ) (h : i < length piece) where
  piece_at : drop i piece ≡ get_or piece i 0 ∷ drop (i + 1) piece
  piece_at = drop-cons piece i 0 h ∙ ap (λ (k : ℕ). get_or piece i 0 ∷ drop k piece) (sym (add-one i))

  -- the text has ended
  pub begins_none : length text ≤ j → begins (drop i piece) (drop j text) ≡ false
  unfolding begins
  begins_none l = rw (piece_at, drop_of_length-le text {i = j} l)

  module _ (l : j < length text) where
    both : begins (drop i piece) (drop j text)
        ≡ (eqb (get_or piece i 0) (get_or text j 0) && begins (drop (i + 1) piece) (drop (j + 1) text))
    unfolding begins
    both = rw (piece_at, drop-cons text j 0 l, add-one j)

    pub begins_other : (get_or piece i 0 ≡ get_or text j 0 → ⊥) → begins (drop i piece) (drop j text) ≡ false
    begins_other d = both ∙ rw (ne_eqb _ _ d)

    pub begins_more : get_or piece i 0 ≡ get_or text j 0 → begins (drop i piece) (drop j text) ≡ begins (drop (i + 1) piece) (drop (j + 1) text)
    begins_more e = both ∙ rw (eq-eqb _ _ e)

pub begins_all : (piece text : List ℕ) (i j : ℕ) → length piece ≤ i → begins (drop i piece) (drop j text) ≡ true
unfolding begins
begins_all piece text i j h = rw (drop_of_length-le piece {i = i} h)

-- ---- a piece put

module _ (before : List ℕ) (at : ℕ) (piece : List ℕ) where
  pub put_nothing : length before < at + length piece → Appended before at piece at before
  unfolding over past
  put_nothing h = record { ends = rw (lt-leb (at + length piece) (length before) h); text = rw (lt-leb (at + length piece) (length before) h) }

  -- what is there when it is put
  pub put_whole : at + length piece ≤ length before → (out : List ℕ) → out ≡ paste before at piece (length piece)
      → Appended before at piece (at + length piece) out
  unfolding over past
  put_whole h out e =
      record {
        ends = rw (le-leb (at + length piece) (length before) h);
        text = rw (le-leb (at + length piece) (length before) h)
            (e ∙ ap (λ (l : List ℕ). take at before ++ l ++ drop (at + length piece) before) (take-length piece));
      }

-- nothing yet
pub grown_none : (before : List ℕ) → Grown before [] 0 before
grown_none before = record { here = refl; is = refl }

-- a piece more, where there is room
pub grows : {before text out after piece : List ℕ} {at end : ℕ} → Grown before text at out → Appended out at piece end after
    → length text + length piece ≤ length before → Grown before (text ++ piece) end after
unfolding over past
grows {before} {text} {out} {after} {piece} {at} {end} g p h =
    record {
      here = p.ends ∙ rw (le-leb (at + length piece) (length out) fits, length-append text piece, g.here);
      is = p.text ∙ rw (le-leb (at + length piece) (length out) fits, front, rest);
    }
  where
    long : length out ≡ length text + length (drop (length text) before)
    long = ap length g.is ∙ length-append text (drop (length text) before)

    fits : at + length piece ≤ length out
    fits = let l = length-drop (length text) before in omega (arith, long, g.here, h, l)

    front : take at out ≡ text
    front = ap (take at) g.is ∙ take_at text (drop (length text) before) at (sym g.here)

    rest : drop (at + length piece) out ≡ drop (length (text ++ piece)) before
    rest =
        ap (drop (at + length piece)) g.is
        ∙ ap (λ (k : ℕ). drop (k + length piece) (text ++ drop (length text) before)) g.here
        ∙ drop-append-add text (drop (length text) before) (length piece)
        ∙ drop-drop (length piece) (length text) before
        ∙ ap (λ (k : ℕ). drop k before) (sym (length-append text piece))

-- the part from r to the end
pub last_part : (n r : ℕ) (d : List ℕ) → length d ≡ n → take (n - r) (drop r d) ≡ drop r d
last_part n r d h = take_all (n - r) (drop r d) (rw (length-drop r d, h) (omega arith))
