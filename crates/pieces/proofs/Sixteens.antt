-- Numbers as sixteen places: what is written is read, nothing else is, and what the loops of the code go by. Assumes nothing.
use Rattle.std.specs.Prelude.{Some, None}
use mathlib.Core.Path.{◌≡◌, refl, sym, ap, ◌∙◌}
use mathlib.Core.Bool.{Bool, true, false, cond, ◌||◌, or-false}
use mathlib.Core.List.{List, [], ◌∷◌, ◌++◌, append_assoc, append-nil}
use mathlib.Core.Option.{Option, some, none}
use Prim.Native.Nat.{ℕ, zero, suc, ◌+◌, ◌-◌, ◌*◌, ◌/◌, ◌%◌, ◌^◌, ◌≤◌, ◌<◌}
use native.Mathlib.Nat.{pow-suc, pow-le-pow_right, le_trans, zero-add, add-zero}
use native.Mathlib.Numerals.{add-one}
use native.Mathlib.Omega.{arith}
use borrow.Author.Tests.{le-leb, leb-true, ne_eqb, eqb-true}
use lib.Dec.{eqb, leb}
use lib.ListN.{length, drop, get_or, set, length-append, length-set, drop_of_length-le}
use lib.Seq.{drop-cons}
use Rattle.pieces.specs.Numbers.{letter, places_of, sixteen, Found, found, is_digit, is_place, place_of, places_from, counted, sixteen_in, read_at}
use Rattle.pieces.proofs.Decimals.{Fronted, digit_bounds, is_digit_lem}
use Rattle.pieces.proofs.Loops.{put_last}

-- ---- one place

-- a place of four bits that has a character of its own: 0 to 9, or 15
abbrev pub Lettered : ℕ → Type 0
Lettered d = place_of (letter d) ≡ d

pub lettered_digit : (d : ℕ) → d ≤ 9 → Lettered d
lettered_digit d h =
    let n : 48 + d ≡ 70 → ⊥ = λ e. absurd (omega arith) in
    let same : 48 + d - 48 ≡ d = omega arith in
    rw (le-leb d 9 h, ne_eqb (48 + d) 70 n) same

letter_place : (d : ℕ) → is_place (letter d) ≡ true
letter_place d = by (leb d 9) refl
  where
    by : (b : Bool) → leb d 9 ≡ b → is_place (cond b (48 + d) 70) ≡ true
    by true e = rw (is_digit_lem (48 + d) (omega arith) (omega (arith, leb-true d 9 e)))
    by false e = refl

-- a character 0-9 or F is the one that its place is written as
place_by : (c : ℕ) (p q : Bool) → is_digit c ≡ p → eqb c 70 ≡ q → (p || q) ≡ true → (cond q 15 (c - 48) < 16) × (letter (cond q 15 (c - 48)) ≡ c)
place_by c p true x y e = (omega arith, sym (eqb-true c 70 y))
place_by c true false x y e =
    let b = digit_bounds c x in
    let low : c - 48 ≤ 9 = omega (arith, b.1) in
    (omega arith, rw (le-leb (c - 48) 9 low) (omega (arith, b.0)))
place_by c false false x y e = let w : ◌≡◌ {A = ℕ} 0 1 = cc in absurd (omega arith)

module _ (c : ℕ) (e : is_place c ≡ true) where
  pub place_small : place_of c < 16
  place_small = (place_by c (is_digit c) (eqb c 70) refl refl e).0

  pub place_letter : letter (place_of c) ≡ c
  place_letter = (place_by c (is_digit c) (eqb c 70) refl refl e).1

-- ---- what is written is read

-- each of the last k places has a character of its own
abbrev pub Placed : ℕ → ℕ → Type 0
Placed zero n = Unit
Placed (suc k) n = Lettered (n % 16) × Placed k (n / 16)

from_place : (k v c : ℕ) (text : List ℕ) → is_place c ≡ true → places_from (suc k) v (c ∷ text) ≡ places_from k (16 * v + place_of c) text
unfolding places_from
from_place k v c text e = rw e

places_more : (k n : ℕ) → places_of (suc k) n ≡ places_of k (n / 16) ++ (letter (n % 16) ∷ [])
unfolding places_of
places_more k n = refl

reads_places : (k j n : ℕ) (text : List ℕ) → Placed k n → n < 16 ^ k → places_from (k + j) 0 (places_of k n ++ text) ≡ places_from j n text
unfolding places_of
reads_places zero j n text p h = rw (zero-add j) (ap (λ (x : ℕ). places_from j x text) (omega arith))
reads_places (suc k) j n text p h =
    let all : suc k + j ≡ k + suc j = omega arith in
    let value : 16 * (n / 16) + n % 16 ≡ n = omega arith in
    ap (λ (x : ℕ). places_from x 0 ((places_of k (n / 16) ++ (letter (n % 16) ∷ [])) ++ text)) all
    ∙ ap (places_from (k + suc j) 0) (append_assoc (places_of k (n / 16)) (letter (n % 16) ∷ []) text)
    ∙ reads_places k (suc j) (n / 16) (letter (n % 16) ∷ text) p.1 (omega (arith, pow-suc 16 k))
    ∙ from_place j (n / 16) (letter (n % 16)) text (letter_place (n % 16))
    ∙ ap (λ (x : ℕ). places_from j (16 * (n / 16) + x) text) p.0
    ∙ ap (λ (x : ℕ). places_from j x text) value

length_places : (k n : ℕ) → length (places_of k n) ≡ k
unfolding places_of
length_places zero n = refl
length_places (suc k) n =
    length-append (places_of k (n / 16)) (letter (n % 16) ∷ []) ∙ ap (λ (x : ℕ). x + 1) (length_places k (n / 16)) ∙ add-one k

pub length_sixteen : (n : ℕ) → length (sixteen n) ≡ 16
length_sixteen n = length_places 16 n

none_left : (n : ℕ) (text : List ℕ) → places_from 0 n text ≡ some n
unfolding places_from
none_left n text = refl

pub sixteen_read : (n : ℕ) (text : List ℕ) → Placed 16 n → n < 2 ^ 64 → sixteen_in (sixteen n ++ text) ≡ some (found n (length (sixteen n)))
unfolding sixteen_in
sixteen_read n text p h =
    let all : places_from 16 0 (sixteen n ++ text) ≡ some n = reads_places 16 0 n text p (omega arith) ∙ none_left n text in
    ap (counted 16) all ∙ ap (λ (x : ℕ). some (found n x)) (sym (length_sixteen n))

-- ---- and nothing else is

-- k characters behind j places of v, read as w
record Taken (j v k : ℕ) (text : List ℕ) (w : ℕ) : Type 0 where
  pub front : List ℕ
  pub rest : List ℕ
  pub is : text ≡ front ++ rest
  pub places : places_of j v ++ front ≡ places_of (j + k) w
  pub small : w < 16 ^ (j + k)

taken_none : (j v : ℕ) (text : List ℕ) → v < 16 ^ j → Taken j v 0 text v
taken_none j v text h =
    record {
      front = [];
      rest = text;
      is = refl;
      places = append-nil (places_of j v) ∙ ap (λ (x : ℕ). places_of x v) (sym (add-zero j));
      small = rw (add-zero j) h;
    }

taken_more : {j v k c : ℕ} {text : List ℕ} {w : ℕ} → is_place c ≡ true → Taken (suc j) (16 * v + place_of c) k text w → Taken j v (suc k) (c ∷ text) w
taken_more {j} {v} {k} {c} {text} {w} e t =
    let s = place_small c e in
    let q : (16 * v + place_of c) / 16 ≡ v = omega arith in
    let r : (16 * v + place_of c) % 16 ≡ place_of c = omega arith in
    let all : suc j + k ≡ j + suc k = omega arith in
    let next : places_of (suc j) (16 * v + place_of c) ≡ places_of j v ++ (c ∷ []) =
    places_more j (16 * v + place_of c) ∙ rw (q, r, place_letter c e) in
    record {
      front = c ∷ t.front;
      rest = t.rest;
      is = ap (λ (l : List ℕ). c ∷ l) t.is;
      places =
          sym (append_assoc (places_of j v) (c ∷ []) t.front) ∙ ap (λ (l : List ℕ). l ++ t.front) (sym next) ∙ t.places
          ∙ ap (λ (x : ℕ). places_of x w) all;
      small = rw (← all) t.small;
    }

places_taken : (k j v : ℕ) (text : List ℕ) (w : ℕ) → v < 16 ^ j → places_from k v text ≡ some w → Taken j v k text w
unfolding places_from
places_taken zero j v text w h e = let s : v ≡ w = cc in rw (← s) (taken_none j v text h)
places_taken (suc k) j v [] w h e = let z : ◌≡◌ {A = ℕ} 0 1 = cc in absurd (omega arith)
places_taken (suc k) j v (c ∷ text) w h e = by (is_place c) refl (places_taken k (suc j) (16 * v + place_of c) text w) e
  where
    by : (b : Bool) → is_place c ≡ b
        → (16 * v + place_of c < 16 ^ suc j → places_from k (16 * v + place_of c) text ≡ some w → Taken (suc j) (16 * v + place_of c) k text w)
        → cond b (places_from k (16 * v + place_of c) text) none ≡ some w → Taken j v (suc k) (c ∷ text) w
    by true p ih x = taken_more p (ih (omega (arith, place_small c p, pow-suc 16 j)) x)
    by false p ih x = let z : ◌≡◌ {A = ℕ} 0 1 = cc in absurd (omega arith)

none_before : (front : List ℕ) (w : ℕ) → places_of 0 0 ++ front ≡ places_of (0 + 16) w → front ≡ sixteen w
unfolding places_of
none_before front w p = p

pub sixteen_is : (text : List ℕ) (x : Found) → sixteen_in text ≡ some x → Fronted sixteen text x
unfolding sixteen_in
sixteen_is text x e = by (places_from 16 0 text) refl e
  where
    by : (o : Option ℕ) → places_from 16 0 text ≡ o → counted 16 o ≡ some x → Fronted sixteen text x
    by none h z = let q : ◌≡◌ {A = ℕ} 0 1 = cc in absurd (omega arith)
    by (some w) h z =
        let s : found w 16 ≡ x = cc in
        let t = places_taken 16 0 0 text w (omega arith) h in
        let same : t.front ≡ sixteen w = none_before t.front w t.places in
        rw (← s)
        (record {
          rest = t.rest;
          is = t.is ∙ ap (λ (l : List ℕ). l ++ t.rest) same;
          count = sym (length_sixteen w);
          small = omega (arith, t.small);
        })

-- ---- the loop of `places_at`

pub record Reading (text : List ℕ) (at v i k : ℕ) : Type 0 where
  pub few : k ≤ 16
  pub here : i ≡ at + k
  pub small : v < 16 ^ k
  pub goes : places_from 16 0 (drop at text) ≡ places_from (16 - k) v (drop i text)

pub reading_first : (text : List ℕ) (at : ℕ) → Reading text at 0 at 0
reading_first text at = record { few = omega arith; here = sym (add-zero at); small = omega arith; goes = refl }

module _ {text : List ℕ} {at v i k : ℕ} (r : Reading text at v i k) where
  pub reads_all : 16 ≤ k → read_at at (sixteen_in (drop at text)) ≡ Some (v, i)
  unfolding sixteen_in
  reads_all h =
      let none : 16 - k ≡ 0 = omega arith in
      let last : k ≡ 16 = omega (arith, r.few) in
      ap (λ (x : Option ℕ). read_at at (counted 16 x)) (r.goes ∙ ap (λ (x : ℕ). places_from x v (drop i text)) none ∙ none_left v (drop i text))
      ∙ ap (λ (e : ℕ). Some (v, e)) (sym (r.here ∙ ap (λ (x : ℕ). at + x) last))

  module _ (l : k < 16) where
    left : 16 - k ≡ suc (16 - (k + 1))
    left = omega arith

    stops : places_from (suc (16 - (k + 1))) v (drop i text) ≡ none → read_at at (sixteen_in (drop at text)) ≡ None
    unfolding sixteen_in
    stops e = ap (λ (x : Option ℕ). read_at at (counted 16 x)) (r.goes ∙ ap (λ (x : ℕ). places_from x v (drop i text)) left ∙ e)

    pub reads_short : length text ≤ i → read_at at (sixteen_in (drop at text)) ≡ None
    unfolding places_from
    reads_short h = stops (rw (drop_of_length-le text {i = i} h))

    module _ (h : i < length text) where
      pub reads_other : is_place (get_or text i 0) ≡ false → read_at at (sixteen_in (drop at text)) ≡ None
      unfolding places_from
      reads_other e = stops (rw (drop-cons text i 0 h, e))

      pub room : is_place (get_or text i 0) ≡ true → 16 * v + place_of (get_or text i 0) < 16 ^ (k + 1)
      room e = let p = place_small (get_or text i 0) e in rw (add-one k) (omega (arith, r.small, pow-suc 16 k))

      pub reading_on : is_place (get_or text i 0) ≡ true → Reading text at (16 * v + place_of (get_or text i 0)) (i + 1) (k + 1)
      reading_on e =
          record {
            few = omega arith;
            here = omega (arith, r.here);
            small = room e;
            goes =
                r.goes ∙ ap (λ (x : ℕ). places_from x v (drop i text)) left
                ∙ ap (places_from (suc (16 - (k + 1))) v) (drop-cons text i 0 h)
                ∙ from_place (16 - (k + 1)) v (get_or text i 0) (drop (suc i) text) e
                ∙ ap (λ (x : ℕ). places_from (16 - (k + 1)) (16 * v + place_of (get_or text i 0)) (drop x text)) (sym (add-one i));
          }

-- ---- the loop of `places`

pub record Putting (v : ℕ) (d : List ℕ) (n i : ℕ) : Type 0 where
  pub size : length d ≡ 16
  pub within : i ≤ 16
  pub is : places_of i n ++ drop i d ≡ sixteen v

pub putting_first : (v : ℕ) (d : List ℕ) → length d ≡ 16 → Putting v d v 16
putting_first v d h =
    record {
      size = h;
      within = omega arith;
      is = ap (λ (x : List ℕ). sixteen v ++ x) (drop_of_length-le d {i = 16} (omega arith)) ∙ append-nil (sixteen v);
    }

module _ {v : ℕ} {d : List ℕ} {n : ℕ} where
  pub putting_on : {i : ℕ} → Putting v d n i → 0 < i → Putting v (set d (i - 1) (letter (n % 16))) (n / 16) (i - 1)
  putting_on {i = zero} p h = absurd (omega arith)
  putting_on {i = suc j} p h =
      let one : suc j - 1 ≡ j = omega arith in
      rw one
      (record {
        size = length-set d j (letter (n % 16)) ∙ p.size;
        within = omega (arith, p.within);
        is = put_last (places_of j (n / 16)) d (letter (n % 16)) j (omega (arith, p.within, p.size))
            ∙ ap (λ (x : List ℕ). x ++ drop (suc j) d) (sym (places_more j n)) ∙ p.is;
      })

  pub put_all : {i : ℕ} → Putting v d n i → i ≤ 0 → d ≡ sixteen v
  unfolding places_of
  put_all {i = zero} p h = p.is
  put_all {i = suc j} p h = absurd (omega arith)

-- ---- the characters, as the code tells them apart

-- a place that is no F is a digit
pub place_low : (c : ℕ) → is_place c ≡ true → (c ≡ 70 → ⊥) → 48 ≤ c
place_low c e n =
    (digit_bounds c (sym (or-false (is_digit c)) ∙ ap (λ (b : Bool). is_digit c || b) (sym (ne_eqb c 70 n)) ∙ e)).0

-- k places hold a number of 64 bits
pub small_places : (k : ℕ) → k ≤ 16 → 16 ^ k ≤ 2 ^ 64
small_places k h = le_trans (pow-le-pow_right {n = 16} (omega arith) {i = k} {j = 16} h) (omega arith)
