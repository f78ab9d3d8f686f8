-- Bytes of two characters each: what a character stands for, and what the loops over them go by. Assumes nothing.
use mathlib.Core.Path.{◌≡◌, refl, sym, ap, ap₂, ◌∙◌}
use mathlib.Core.Bool.{Bool, true, false, ◌&&◌, and-false}
use mathlib.Core.List.{List, [], ◌∷◌, ◌++◌}
use Prim.Native.Nat.{ℕ, zero, suc, ◌+◌, ◌-◌, ◌*◌, ◌/◌, ◌%◌, ◌≤◌, ◌<◌}
use native.Mathlib.Numerals.{add-one}
use native.Mathlib.Omega.{arith}
use borrow.Author.Tests.{le-leb, lt-leb, ltb-true, leb-true, eqb-true, eq-eqb, ne_eqb}
use lib.Dec.{leb, ltb, eqb}
use lib.ListN.{length, take, drop, get_or, set}
use lib.Seq.{drop-cons, length-take-le, get_or-take, set_at, append_snoc}
use Rattle.std.specs.List.{list_all}
use Rattle.telegram_word.specs.Telegrams.{hex_of, hexed, in_pairs, bytes_in}

-- ---- the ways through `digit`

module _ (c : ℕ) where
  pub hex_digit : 48 ≤ c → c ≤ 57 → hex_of c ≡ c - 48
  unfolding hex_of
  hex_digit l h = rw (le-leb 48 c l, le-leb c 57 h)

  pub hex_capital : 65 ≤ c → c ≤ 70 → hex_of c ≡ 10 + (c - 65)
  unfolding hex_of
  hex_capital l h = rw (le-leb 48 c (omega arith), lt-leb c 57 (omega arith), le-leb 65 c l, le-leb c 70 h)

  pub hex_small : 97 ≤ c → c ≤ 102 → hex_of c ≡ 10 + (c - 97)
  unfolding hex_of
  hex_small l h =
      rw (le-leb 48 c (omega arith), lt-leb c 57 (omega arith), le-leb 65 c (omega arith), lt-leb c 70 (omega arith), le-leb 97 c l, le-leb c 102 h)

  -- in front of the digits, between them and A, between F and a, and behind f
  pub hex_front : c < 48 → hex_of c ≡ 16
  unfolding hex_of
  hex_front h = rw (lt-leb 48 c h, lt-leb 65 c (omega arith), lt-leb 97 c (omega arith))

  pub hex_between : 57 < c → c < 65 → hex_of c ≡ 16
  unfolding hex_of
  hex_between l h = rw (le-leb 48 c (omega arith), lt-leb c 57 l, lt-leb 65 c h, lt-leb 97 c (omega arith))

  pub hex_middle : 70 < c → c < 97 → hex_of c ≡ 16
  unfolding hex_of
  hex_middle l h = rw (le-leb 48 c (omega arith), lt-leb c 57 (omega arith), le-leb 65 c (omega arith), lt-leb c 70 l, lt-leb 97 c h)

  pub hex_behind : 102 < c → hex_of c ≡ 16
  unfolding hex_of
  hex_behind l =
      rw (le-leb 48 c (omega arith), lt-leb c 57 (omega arith), le-leb 65 c (omega arith), lt-leb c 70 (omega arith), le-leb 97 c (omega arith), lt-leb c 102 l)

-- ---- as `in_pairs` tests them

pub hexed_all : (text : List ℕ) → list_all (λ (c : ℕ). ltb (hex_of c) 16) text ≡ hexed text
unfolding hexed
hexed_all [] = refl
hexed_all (c ∷ text) = ap (λ (b : Bool). ltb (hex_of c) 16 && b) (hexed_all text)

-- ---- what `in_pairs` answers at each return

module _ (text : List ℕ) where
  pub pairs_long : 256 < length text → in_pairs text ≡ false
  unfolding in_pairs
  pairs_long h = rw (lt-leb (length text) 256 h)

  pub pairs_odd : (length text % 2 ≡ 0 → ⊥) → in_pairs text ≡ false
  unfolding in_pairs
  pairs_odd h = rw (ne_eqb (length text % 2) 0 h) (and-false (leb (length text) 256))

  pub pairs_even : length text ≤ 256 → length text % 2 ≡ 0 → in_pairs text ≡ hexed text
  unfolding in_pairs
  pairs_even l h = rw (le-leb (length text) 256 l, eq-eqb (length text % 2) 0 h)

  -- and what a true answer tells
  pairs_by : (p q r : Bool) → leb (length text) 256 ≡ p → eqb (length text % 2) 0 ≡ q → hexed text ≡ r → (p && (q && r)) ≡ true
      → (length text ≤ 256) × (length text % 2 ≡ 0) × (hexed text ≡ true)
  pairs_by true true true x y z e = (leb-true (length text) 256 x, eqb-true (length text % 2) 0 y, z)
  pairs_by true true false x y z e = let o : ◌≡◌ {A = ℕ} 0 1 = cc in absurd (omega arith)
  pairs_by true false r x y z e = let o : ◌≡◌ {A = ℕ} 0 1 = cc in absurd (omega arith)
  pairs_by false q r x y z e = let o : ◌≡◌ {A = ℕ} 0 1 = cc in absurd (omega arith)

  pub pairs_told : in_pairs text ≡ true → (length text ≤ 256) × (length text % 2 ≡ 0) × (hexed text ≡ true)
  unfolding in_pairs
  pairs_told = pairs_by (leb (length text) 256) (eqb (length text % 2) 0) (hexed text) refl refl refl

-- ---- the loop of `fill`

module _ (c : ℕ) (text : List ℕ) where
  hexed_by : (p q : Bool) → ltb (hex_of c) 16 ≡ p → hexed text ≡ q → (p && q) ≡ true → (hex_of c < 16) × (hexed text ≡ true)
  hexed_by true true x y e = (ltb-true (hex_of c) 16 x, y)
  hexed_by true false x y e = let o : ◌≡◌ {A = ℕ} 0 1 = cc in absurd (omega arith)
  hexed_by false q x y e = let o : ◌≡◌ {A = ℕ} 0 1 = cc in absurd (omega arith)

  hexed_told : hexed (c ∷ text) ≡ true → (hex_of c < 16) × (hexed text ≡ true)
  unfolding hexed
  hexed_told = hexed_by (ltb (hex_of c) 16) (hexed text) refl refl

small_in : (text : List ℕ) (i : ℕ) → hexed text ≡ true → i < length text → hex_of (get_or text i 0) < 16
small_in [] i e h = absurd (omega arith)
small_in (c ∷ text) zero e h = (hexed_told c text e).0
small_in (c ∷ text) (suc i) e h = small_in text i (hexed_told c text e).1 (omega arith)

-- a character of a hexadecimal text stands for less than 16
pub hexed_small : (text : List ℕ) (end i : ℕ) → end ≤ length text → hexed (take end text) ≡ true → i < end → hex_of (get_or text i 0) < 16
hexed_small text end i l e h = rw (get_or-take end text i 0 h) at (small_in (take end text) i e (rw (length-take-le end text l) h))

abbrev pub byte_at : List ℕ → ℕ → ℕ
byte_at text n = 16 * hex_of (get_or text n 0) + hex_of (get_or text (suc n) 0)

-- two characters more are one byte more
bytes_more : (n : ℕ) (text : List ℕ) → n % 2 ≡ 0 → suc n < length text
    → bytes_in (take (suc (suc n)) text) ≡ bytes_in (take n text) ++ (byte_at text n ∷ [])
unfolding bytes_in
bytes_more n [] e h = absurd (omega arith)
bytes_more n (a ∷ []) e h = absurd (omega arith)
bytes_more zero (a ∷ b ∷ text) e h = refl
bytes_more (suc zero) (a ∷ b ∷ text) e h = absurd (omega arith)
bytes_more (suc (suc n)) (a ∷ b ∷ text) e h = ap (λ (l : List ℕ). (16 * hex_of a + hex_of b) ∷ l) (bytes_more n text (omega arith) (omega arith))

pub length_bytes_in : (text : List ℕ) → length (bytes_in text) ≡ length text / 2
unfolding bytes_in
length_bytes_in [] = refl
length_bytes_in (a ∷ []) = refl
length_bytes_in (a ∷ b ∷ text) = omega (arith, length_bytes_in text)

-- one byte more, stored behind those that are there
pub store_again : (text before : List ℕ) (i : ℕ) → 2 * i + 1 < length text → i < length before
    → set (bytes_in (take (2 * i) text) ++ drop i before) i (16 * hex_of (get_or text (2 * i) 0) + hex_of (get_or text (2 * i + 1) 0))
    ≡ bytes_in (take (2 * (i + 1)) text) ++ drop (i + 1) before
store_again text before i t h =
    ap₂ (λ (l : List ℕ) (n : ℕ). set (bytes_in (take (2 * i) text) ++ l) i (16 * hex_of (get_or text (2 * i) 0) + hex_of (get_or text n 0)))
    (drop-cons before i 0 h) (add-one (2 * i))
    ∙ set_at (bytes_in (take (2 * i) text)) (get_or before i 0) (drop (suc i) before) y i here
    ∙ sym (append_snoc (bytes_in (take (2 * i) text)) y (drop (suc i) before))
    ∙ ap (λ (l : List ℕ). l ++ drop (suc i) before) (sym (bytes_more (2 * i) text (omega arith) (omega arith)))
    ∙ ap₂ (λ (n k : ℕ). bytes_in (take n text) ++ drop k before) more (sym (add-one i))
  where
    y : ℕ
    y = byte_at text (2 * i)

    more : suc (suc (2 * i)) ≡ 2 * (i + 1)
    more = omega arith

    here : length (bytes_in (take (2 * i) text)) ≡ i
    here = let l = length-take-le (2 * i) text (omega arith) in omega (arith, length_bytes_in (take (2 * i) text), l)
