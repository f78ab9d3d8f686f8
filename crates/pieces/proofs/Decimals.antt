-- Decimal numbers: what is written is read, nothing else is, and what the loops of the code go by. Assumes nothing.
use mathlib.Core.Path.{◌≡◌, refl, sym, ap, ◌∙◌}
use mathlib.Core.Bool.{Bool, true, false, cond, ◌&&◌}
use mathlib.Core.List.{List, [], ◌∷◌, ◌++◌, append_assoc, append-nil}
use mathlib.Core.Option.{some, none}
use Prim.Native.Nat.{ℕ, zero, suc, ◌+◌, ◌-◌, ◌*◌, ◌/◌, ◌%◌, ◌^◌, ◌≤◌, ◌<◌}
use native.Mathlib.Nat.{pow-suc, add-zero}
use native.Mathlib.Numerals.{add-one, one-add}
use native.Mathlib.Omega.{arith}
use borrow.Author.Tests.{lt-ltb, le-ltb, le-leb, ltb-true, ltb-false, leb-true, ne_eqb, eqb-true, eqb-false}
use lib.Arith.{lt_of_le-ne}
use lib.Dec.{eqb, leb, ltb}
use lib.ListN.{length, length-append}
use Rattle.pieces.specs.Numbers.{digits_of, decimal, Found, found, is_digit, digits_from, bounded, decimal_in}

-- ---- the digits of a number

pub digits_one : (k n : ℕ) → n < 10 → digits_of (suc k) n ≡ (48 + n) ∷ []
unfolding digits_of
digits_one k n h = rw (lt-ltb n 10 h)

pub digits_more : (k n : ℕ) → 10 ≤ n → digits_of (suc k) n ≡ digits_of k (n / 10) ++ ((48 + n % 10) ∷ [])
unfolding digits_of
digits_more k n h = rw (le-ltb n 10 h)

-- another digit behind a number
pub digits_next : (k v d : ℕ) → 0 < v → d < 10 → digits_of (suc k) (10 * v + d) ≡ digits_of k v ++ ((48 + d) ∷ [])
digits_next k v d h l =
    let q : (10 * v + d) / 10 ≡ v = omega arith in
    let r : (10 * v + d) % 10 ≡ d = omega arith in
    digits_more k (10 * v + d) (omega arith) ∙ rw (q, r)

-- so many digits are enough as well as any other number of them that is
module _ (n : ℕ) (ih : (k m : ℕ) → n / 10 < 10 ^ suc k → n / 10 < 10 ^ suc m → digits_of (suc k) (n / 10) ≡ digits_of (suc m) (n / 10)) where
  enough_by : (b : Bool) → ltb n 10 ≡ b → (k m : ℕ) → n < 10 ^ suc k → n < 10 ^ suc m → digits_of (suc k) n ≡ digits_of (suc m) n
  enough_by true e k m h g = digits_one k n (ltb-true n 10 e) ∙ sym (digits_one m n (ltb-true n 10 e))
  enough_by false e zero m h g = absurd (omega (arith, ltb-false n 10 e))
  enough_by false e (suc k) zero h g = absurd (omega (arith, ltb-false n 10 e))
  enough_by false e (suc k) (suc m) h g =
      let less : n / 10 < 10 ^ suc k = omega (arith, pow-suc 10 (suc k)) in
      let lower : n / 10 < 10 ^ suc m = omega (arith, pow-suc 10 (suc m)) in
      digits_more (suc k) n (ltb-false n 10 e)
      ∙ ap (λ (l : List ℕ). l ++ ((48 + n % 10) ∷ [])) (ih k m less lower)
      ∙ sym (digits_more (suc m) n (ltb-false n 10 e))

enough_in : (f : ℕ) (k m n : ℕ) → n < 10 ^ f → n < 10 ^ suc k → n < 10 ^ suc m → digits_of (suc k) n ≡ digits_of (suc m) n
enough_in zero k m n l h g = digits_one k n (omega arith) ∙ sym (digits_one m n (omega arith))
enough_in (suc f) k m n l h g =
    enough_by n (λ i j x y. enough_in f i j (n / 10) (omega (arith, pow-suc 10 f)) x y) (ltb n 10) refl k m h g

pub digits_enough : (k m n : ℕ) → n < 10 ^ suc k → n < 10 ^ suc m → digits_of (suc k) n ≡ digits_of (suc m) n
digits_enough k m n h g = enough_in (suc k) k m n h h g

-- ---- what is written is read

module _ (c : ℕ) where
  pub is_digit_lem : 48 ≤ c → c ≤ 57 → is_digit c ≡ true
  is_digit_lem a b = rw (le-leb 48 c a, le-leb c 57 b)

  pub digit_bounds : is_digit c ≡ true → (48 ≤ c) × (c ≤ 57)
  digit_bounds e = by (leb 48 c) (leb c 57) refl refl e
    where
      by : (p q : Bool) → leb 48 c ≡ p → leb c 57 ≡ q → (p && q) ≡ true → (48 ≤ c) × (c ≤ 57)
      by true true x y z = (leb-true 48 c x, leb-true c 57 y)
      by true false x y z = let w : ◌≡◌ {A = ℕ} 0 1 = cc in absurd (omega arith)
      by false q x y z = let w : ◌≡◌ {A = ℕ} 0 1 = cc in absurd (omega arith)

-- a digit, and what is none
pub from_digit : (v n c : ℕ) (text : List ℕ) → is_digit c ≡ true → digits_from v n (c ∷ text) ≡ digits_from (10 * v + (c - 48)) (suc n) text
unfolding digits_from
from_digit v n c text e = rw e

pub from_other : (v n c : ℕ) (text : List ℕ) → is_digit c ≡ false → digits_from v n (c ∷ text) ≡ found v n
unfolding digits_from
from_other v n c text e = rw e

from_next : (v n d : ℕ) (text : List ℕ) → d < 10 → digits_from v n ((48 + d) ∷ text) ≡ digits_from (10 * v + d) (suc n) text
from_next v n d text h =
    let same : 48 + d - 48 ≡ d = omega arith in
    from_digit v n (48 + d) text (is_digit_lem (48 + d) (omega arith) (omega arith))
    ∙ ap (λ (x : ℕ). digits_from (10 * v + x) (suc n) text) same

module _ (text : List ℕ) where
  reads_one : (k n : ℕ) → n < 10 → digits_from 0 0 (digits_of (suc k) n ++ text) ≡ digits_from n (length (digits_of (suc k) n)) text
  reads_one k n h = rw (digits_one k n h) (from_next 0 0 n text h ∙ ap (λ (x : ℕ). digits_from x 1 text) (omega arith))

-- the digits of a number read, whatever follows
reads_digits : (f k n : ℕ) (text : List ℕ) → n < 10 ^ f → n < 10 ^ suc k
    → digits_from 0 0 (digits_of (suc k) n ++ text) ≡ digits_from n (length (digits_of (suc k) n)) text
reads_digits zero k n text l h = reads_one text k n (omega arith)
reads_digits (suc f) zero n text l h = reads_one text zero n (omega arith)
reads_digits (suc f) (suc k) n text l h = by (ltb n 10) refl (reads_digits f k (n / 10) ((48 + n % 10) ∷ text) (omega (arith, pow-suc 10 f)) (omega (arith, pow-suc 10 (suc k))))
  where
    by : (b : Bool) → ltb n 10 ≡ b
        → digits_from 0 0 (digits_of (suc k) (n / 10) ++ ((48 + n % 10) ∷ text)) ≡ digits_from (n / 10) (length (digits_of (suc k) (n / 10))) ((48 + n % 10) ∷ text)
        → digits_from 0 0 (digits_of (suc (suc k)) n ++ text) ≡ digits_from n (length (digits_of (suc (suc k)) n)) text
    by true e ih = reads_one text (suc k) n (ltb-true n 10 e)
    by false e ih =
        let more = digits_more (suc k) n (ltb-false n 10 e) in
        let value : 10 * (n / 10) + n % 10 ≡ n = omega arith in
        let long : suc (length (digits_of (suc k) (n / 10))) ≡ length (digits_of (suc (suc k)) n) =
        sym (ap length more ∙ length-append (digits_of (suc k) (n / 10)) ((48 + n % 10) ∷ []) ∙ add-one _) in
        ap (λ (l : List ℕ). digits_from 0 0 (l ++ text)) more
        ∙ ap (digits_from 0 0) (append_assoc (digits_of (suc k) (n / 10)) ((48 + n % 10) ∷ []) text)
        ∙ ih
        ∙ from_next (n / 10) (length (digits_of (suc k) (n / 10))) (n % 10) text (omega arith)
        ∙ ap (λ (x : ℕ). digits_from x (suc (length (digits_of (suc k) (n / 10)))) text) value
        ∙ ap (λ (x : ℕ). digits_from n x text) long

-- the first digit of a number that is not 0
record Led (l : List ℕ) : Type 0 where
  pub first : ℕ
  pub rest : List ℕ
  pub is : l ≡ first ∷ rest
  pub positive : 48 < first
  pub small : first ≤ 57

led_append : (l m : List ℕ) → Led l → Led (l ++ m)
led_append l m d = record { first = d.first; rest = d.rest ++ m; is = ap (λ (x : List ℕ). x ++ m) d.is; positive = d.positive; small = d.small }

led_one : (k n : ℕ) → 0 < n → n < 10 → Led (digits_of (suc k) n)
led_one k n h l = record { first = 48 + n; rest = []; is = digits_one k n l; positive = omega arith; small = omega arith }

led : (k n : ℕ) → 0 < n → n < 10 ^ suc k → Led (digits_of (suc k) n)
led zero n h l = led_one zero n h (omega arith)
led (suc k) n h l = by (ltb n 10) refl (λ x. led k (n / 10) x (omega (arith, pow-suc 10 (suc k))))
  where
    by : (b : Bool) → ltb n 10 ≡ b → (0 < n / 10 → Led (digits_of (suc k) (n / 10))) → Led (digits_of (suc (suc k)) n)
    by true e ih = led_one (suc k) n h (ltb-true n 10 e)
    by false e ih =
        let g = ltb-false n 10 e in
        rw (digits_more (suc k) n g) (led_append (digits_of (suc k) (n / 10)) ((48 + n % 10) ∷ []) (ih (omega (arith, g))))

decimal_zero : (text : List ℕ) → decimal_in (48 ∷ text) ≡ some (found 0 1)
unfolding decimal_in
decimal_zero text = refl

decimal_other : (c : ℕ) (text : List ℕ) → 48 < c → c ≤ 57 → decimal_in (c ∷ text) ≡ bounded (digits_from 0 0 (c ∷ text))
unfolding decimal_in
decimal_other c text h l =
    let n : c ≡ 48 → ⊥ = λ e. absurd (omega arith) in
    rw (ne_eqb c 48 n, is_digit_lem c (omega arith) l)

pub decimal_read : (n c : ℕ) (text : List ℕ) → n < 2 ^ 64 → is_digit c ≡ false
    → decimal_in (decimal n ++ (c ∷ text)) ≡ some (found n (length (decimal n)))
decimal_read zero c text h e = rw (digits_one 19 0 (omega arith)) (decimal_zero (c ∷ text))
decimal_read (suc m) c text h e =
    let n : ℕ = suc m in
    let d = led 19 n (omega arith) (omega arith) in
    ap (λ (l : List ℕ). decimal_in (l ++ (c ∷ text))) d.is
    ∙ decimal_other d.first (d.rest ++ (c ∷ text)) d.positive d.small
    ∙ ap (λ (l : List ℕ). bounded (digits_from 0 0 (l ++ (c ∷ text)))) (sym d.is)
    ∙ ap bounded (reads_digits 20 19 n (c ∷ text) (omega arith) (omega arith) ∙ from_other n (length (decimal n)) c text e)
    ∙ rw (lt-ltb n (2 ^ 64) h)

-- ---- and nothing else is

-- the digits behind a number that is not 0, read: with them it is another, and they are its last digits
record Taken (k v n : ℕ) (text : List ℕ) (x : Found) : Type 0 where
  pub front : List ℕ
  pub rest : List ℕ
  pub is : text ≡ front ++ rest
  pub count : x.count ≡ n + length front
  pub digits : digits_of k v ++ front ≡ digits_of (k + length front) x.value
  pub small : x.value < 10 ^ (k + length front)

taken_none : (k v n : ℕ) (text : List ℕ) → v < 10 ^ k → Taken k v n text (found v n)
taken_none k v n text h =
    record {
      front = [];
      rest = text;
      is = refl;
      count = sym (add-zero n);
      digits = append-nil (digits_of k v) ∙ ap (λ (x : ℕ). digits_of x v) (sym (add-zero k));
      small = rw (add-zero k) h;
    }

taken_more : {k v n c : ℕ} {text : List ℕ} {x : Found} → 0 < v → is_digit c ≡ true → Taken (suc k) (10 * v + (c - 48)) (suc n) text x
    → Taken k v n (c ∷ text) x
taken_more {k} {v} {n} {c} {text} {x} h e t =
    let b = digit_bounds c e in
    let same : 48 + (c - 48) ≡ c = omega (arith, b.0) in
    let long : suc k + length t.front ≡ k + suc (length t.front) = omega arith in
    let next : digits_of (suc k) (10 * v + (c - 48)) ≡ digits_of k v ++ (c ∷ []) =
    digits_next k v (c - 48) h (omega (arith, b.1)) ∙ ap (λ (y : ℕ). digits_of k v ++ (y ∷ [])) same in
    record {
      front = c ∷ t.front;
      rest = t.rest;
      is = ap (λ (l : List ℕ). c ∷ l) t.is;
      count = t.count ∙ omega arith;
      digits =
          sym (append_assoc (digits_of k v) (c ∷ []) t.front) ∙ ap (λ (l : List ℕ). l ++ t.front) (sym next) ∙ t.digits
          ∙ ap (λ (y : ℕ). digits_of y x.value) long;
      small = rw (← long) t.small;
    }

digits_taken : (text : List ℕ) (k v n : ℕ) → 0 < v → v < 10 ^ k → Taken k v n text (digits_from v n text)
unfolding digits_from
digits_taken [] k v n h l = taken_none k v n [] l
digits_taken (c ∷ text) k v n h l = by (is_digit c) refl (digits_taken text (suc k) (10 * v + (c - 48)) (suc n))
  where
    by : (b : Bool) → is_digit c ≡ b
        → (0 < 10 * v + (c - 48) → 10 * v + (c - 48) < 10 ^ suc k → Taken (suc k) (10 * v + (c - 48)) (suc n) text (digits_from (10 * v + (c - 48)) (suc n) text))
        → Taken k v n (c ∷ text) (cond b (digits_from (10 * v + (c - 48)) (suc n) text) (found v n))
    by true e ih =
        let b = digit_bounds c e in
        taken_more h e (ih (omega arith) (omega (arith, b.1, pow-suc 10 k)))
    by false e ih = taken_none k v n (c ∷ text) l

-- a number at the front of a text, which is what would be written for it
pub record Fronted (written : ℕ → List ℕ) (text : List ℕ) (x : Found) : Type 0 where
  pub rest : List ℕ
  pub is : text ≡ written x.value ++ rest
  pub count : x.count ≡ length (written x.value)
  pub small : x.value < 2 ^ 64

bounded_is : (y x : Found) → bounded y ≡ some x → (y ≡ x) × (x.value < 2 ^ 64)
bounded_is y x e = by (ltb y.value (2 ^ 64)) refl e
  where
    by : (b : Bool) → ltb y.value (2 ^ 64) ≡ b → cond b (some y) none ≡ some x → (y ≡ x) × (x.value < 2 ^ 64)
    by true h e = let s : y ≡ x = cc in (s, rw (← s) (ltb-true y.value (2 ^ 64) h))
    by false h e = let w : ◌≡◌ {A = ℕ} 0 1 = cc in absurd (omega arith)

module _ (c : ℕ) (text : List ℕ) (x : Found) where
  fronted_zero : c ≡ 48 → found 0 1 ≡ x → Fronted decimal (c ∷ text) x
  fronted_zero e s =
      rw (← s)
      (record {
        rest = text;
        is = rw (e, digits_one 19 0 (omega arith));
        count = rw (digits_one 19 0 (omega arith));
        small = omega arith;
      })

  fronted_digits : (c ≡ 48 → ⊥) → is_digit c ≡ true → bounded (digits_from 0 0 (c ∷ text)) ≡ some x → Fronted decimal (c ∷ text) x
  fronted_digits d e s =
      let b = digit_bounds c e in
      let y = bounded_is (digits_from 0 0 (c ∷ text)) x s in
      let g : 48 < c = lt_of_le-ne b.0 (λ z. d (sym z)) in
      let first : digits_of 1 (c - 48) ≡ c ∷ [] =
      digits_one 0 (c - 48) (omega (arith, b.1)) ∙ ap (λ (z : ℕ). z ∷ []) (omega (arith, b.0)) in
      let value : c - 48 ≡ 10 * 0 + (c - 48) = omega arith in
      let same : digits_from (c - 48) 1 text ≡ x = ap (λ (z : ℕ). digits_from z 1 text) value ∙ sym (from_digit 0 0 c text e) ∙ y.0 in
      let t : Taken 1 (c - 48) 1 text x = rw (← same) (digits_taken text 1 (c - 48) 1 (omega arith) (omega (arith, b.1))) in
      let whole : c ∷ t.front ≡ decimal x.value =
      ap (λ (l : List ℕ). l ++ t.front) (sym first) ∙ t.digits
      ∙ ap (λ (z : ℕ). digits_of z x.value) (one-add (length t.front))
      ∙ digits_enough (length t.front) 19 x.value (rw (← (one-add (length t.front))) t.small) (omega (arith, y.1)) in
      record {
        rest = t.rest;
        is = ap (λ (l : List ℕ). c ∷ l) t.is ∙ ap (λ (l : List ℕ). l ++ t.rest) whole;
        count = t.count ∙ one-add (length t.front) ∙ ap length whole;
        small = y.1;
      }

pub decimal_is : (text : List ℕ) (x : Found) → decimal_in text ≡ some x → Fronted decimal text x
unfolding decimal_in
decimal_is [] x e = let w : ◌≡◌ {A = ℕ} 0 1 = cc in absurd (omega arith)
decimal_is (c ∷ text) x e = by (eqb c 48) (is_digit c) refl refl e
  where
    by : (p q : Bool) → eqb c 48 ≡ p → is_digit c ≡ q
        → cond p (some (found 0 1)) (cond q (bounded (digits_from 0 0 (c ∷ text))) none) ≡ some x → Fronted decimal (c ∷ text) x
    by true q h k z = fronted_zero c text x (eqb-true c 48 h) cc
    by false true h k z = fronted_digits c text x (eqb-false c 48 h) k z
    by false false h k z = let w : ◌≡◌ {A = ℕ} 0 1 = cc in absurd (omega arith)

-- no more characters than digits were asked for
pub length_decimal : (k n : ℕ) → length (digits_of k n) ≤ k
unfolding digits_of
length_decimal zero n = omega arith
length_decimal (suc k) n = by (ltb n 10) (length_decimal k (n / 10))
  where
    by : (b : Bool) → length (digits_of k (n / 10)) ≤ k
        → length (cond b ((48 + n) ∷ []) (digits_of k (n / 10) ++ ((48 + n % 10) ∷ []))) ≤ suc k
    by true h = omega arith
    by false h = rw (length-append (digits_of k (n / 10)) ((48 + n % 10) ∷ [])) (omega arith)
