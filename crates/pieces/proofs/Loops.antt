-- What the loops of the code go by that read and write decimal digits, and what each return of theirs answers. Assumes nothing.
use Rattle.std.specs.Prelude.{Some, None}
use mathlib.Core.Path.{◌≡◌, sym, ap, ap₂, ◌∙◌}
use mathlib.Core.Bool.{Bool, true, false, cond}
use mathlib.Core.List.{List, [], ◌∷◌, ◌++◌, append_assoc, append-nil}
use mathlib.Core.Option.{none}
use Prim.Native.Nat.{ℕ, zero, suc, ◌+◌, ◌-◌, ◌*◌, ◌/◌, ◌%◌, ◌^◌, ◌≤◌, ◌<◌}
use native.Mathlib.Nat.{pow-suc, le_trans}
use native.Mathlib.Numerals.{add-one}
use native.Mathlib.Omega.{arith}
use borrow.Author.Tests.{lt-ltb, le-ltb, ne_eqb}
use lib.ListN.{length, drop, get_or, set, length-set, drop_of_length-le}
use lib.Seq.{drop-cons, get_or-set_same, drop-set-lt}
use Rattle.pieces.specs.Numbers.{digits_of, decimal, Found, found, is_digit, digits_from, bounded, decimal_in, read_at}
use Rattle.pieces.proofs.Decimals.{digits_one, digits_more, from_digit, from_other}

-- ---- the loop of `digits_at`

module _ (text : List ℕ) (v n i : ℕ) (h : i < length text) where
  digits_on : is_digit (get_or text i 0) ≡ true
      → digits_from v n (drop i text) ≡ digits_from (10 * v + (get_or text i 0 - 48)) (suc n) (drop (i + 1) text)
  digits_on e =
      ap (digits_from v n) (drop-cons text i 0 h)
      ∙ from_digit v n (get_or text i 0) (drop (suc i) text) e
      ∙ ap (λ (k : ℕ). digits_from (10 * v + (get_or text i 0 - 48)) (suc n) (drop k text)) (sym (add-one i))

  digits_off : is_digit (get_or text i 0) ≡ false → digits_from v n (drop i text) ≡ found v n
  digits_off e = ap (digits_from v n) (drop-cons text i 0 h) ∙ from_other v n (get_or text i 0) (drop (suc i) text) e

digits_end : (text : List ℕ) (v n i : ℕ) → length text ≤ i → digits_from v n (drop i text) ≡ found v n
unfolding digits_from
digits_end text v n i h = rw (drop_of_length-le text {i = i} h)

-- more digits make no smaller number
pub digits_grow : (text : List ℕ) (v n : ℕ) → v ≤ (digits_from v n text).value
unfolding digits_from
digits_grow [] v n = omega arith
digits_grow (c ∷ text) v n = by (is_digit c) (digits_grow text (10 * v + (c - 48)) (suc n))
  where
    by : (b : Bool) → 10 * v + (c - 48) ≤ (digits_from (10 * v + (c - 48)) (suc n) text).value
        → v ≤ (cond b (digits_from (10 * v + (c - 48)) (suc n) text) (found v n)).value
    by true h = omega arith
    by false h = omega arith

-- where digits behind at are read up to i
pub record Reading (text : List ℕ) (at v i : ℕ) : Type 0 where
  pub behind : at ≤ i
  pub small : v < 2 ^ 64
  pub goes : digits_from 0 0 (drop at text) ≡ digits_from v (i - at) (drop i text)

pub reading_first : (text : List ℕ) (at : ℕ) → Reading text at 0 at
reading_first text at =
    record { behind = omega arith; small = omega arith; goes = ap (λ (k : ℕ). digits_from 0 k (drop at text)) (omega arith) }

module _ {text : List ℕ} {at v i : ℕ} (r : Reading text at v i) where
  reads_to : digits_from v (i - at) (drop i text) ≡ found v (i - at) → read_at at (bounded (digits_from 0 0 (drop at text))) ≡ Some (v, i)
  reads_to e =
      let here : at + (i - at) ≡ i = omega (arith, r.behind) in
      ap (λ (x : Found). read_at at (bounded x)) (r.goes ∙ e) ∙ rw (lt-ltb v (2 ^ 64) r.small) (ap (λ (e : ℕ). Some (v, e)) here)

  -- at the end of the text, or of the digits
  pub reads_end : length text ≤ i → read_at at (bounded (digits_from 0 0 (drop at text))) ≡ Some (v, i)
  reads_end l = reads_to (digits_end text v (i - at) i l)

  module _ (l : i < length text) where
    pub reads_off : is_digit (get_or text i 0) ≡ false → read_at at (bounded (digits_from 0 0 (drop at text))) ≡ Some (v, i)
    reads_off e = reads_to (digits_off text v (i - at) i l e)

    goes_on : is_digit (get_or text i 0) ≡ true
        → digits_from 0 0 (drop at text) ≡ digits_from (10 * v + (get_or text i 0 - 48)) (i + 1 - at) (drop (i + 1) text)
    goes_on e =
        let here : suc (i - at) ≡ i + 1 - at = omega (arith, r.behind) in
        r.goes ∙ digits_on text v (i - at) i l e
        ∙ ap (λ (k : ℕ). digits_from (10 * v + (get_or text i 0 - 48)) k (drop (i + 1) text)) here

    pub reading_on : is_digit (get_or text i 0) ≡ true → 10 * v + (get_or text i 0 - 48) < 2 ^ 64 → Reading text at (10 * v + (get_or text i 0 - 48)) (i + 1)
    reading_on e h = record { behind = omega (arith, r.behind); small = h; goes = goes_on e }

    -- once it is past 64 bits it stays so
    pub reads_large : is_digit (get_or text i 0) ≡ true → 2 ^ 64 ≤ 10 * v + (get_or text i 0 - 48)
        → read_at at (bounded (digits_from 0 0 (drop at text))) ≡ None
    reads_large e h =
        let g = goes_on e in
        let big : 2 ^ 64 ≤ (digits_from 0 0 (drop at text)).value =
        rw g (le_trans h (digits_grow (drop (i + 1) text) (10 * v + (get_or text i 0 - 48)) (i + 1 - at))) in
        rw (le-ltb (digits_from 0 0 (drop at text)).value (2 ^ 64) big)

-- ---- what `decimal_at` answers at each return

pub at_end : (text : List ℕ) (at : ℕ) → length text ≤ at → read_at at (decimal_in (drop at text)) ≡ None
unfolding decimal_in
at_end text at h = rw (drop_of_length-le text {i = at} h)

module _ (text : List ℕ) (at : ℕ) (h : at < length text) where
  pub at_zero : get_or text at 0 ≡ 48 → read_at at (decimal_in (drop at text)) ≡ Some (0, at + 1)
  unfolding decimal_in
  at_zero e = rw (drop-cons text at 0 h, e)

  module _ (n : get_or text at 0 ≡ 48 → ⊥) where
    at_char : (b : Bool) → is_digit (get_or text at 0) ≡ b
        → decimal_in (drop at text) ≡ cond b (bounded (digits_from 0 0 (drop at text))) none
    unfolding decimal_in
    at_char b e = rw (drop-cons text at 0 h, ne_eqb (get_or text at 0) 48 n, e)

    pub at_other : is_digit (get_or text at 0) ≡ false → read_at at (decimal_in (drop at text)) ≡ None
    at_other e = ap (read_at at) (at_char false e)

    pub at_digits : is_digit (get_or text at 0) ≡ true → read_at at (decimal_in (drop at text)) ≡ read_at at (bounded (digits_from 0 0 (drop at text)))
    at_digits e = ap (read_at at) (at_char true e)

-- ---- the loop of `digits`: digits put from the end

-- a character put at j, in front of what stands behind it
pub put_last : (front d : List ℕ) (c j : ℕ) → j < length d → front ++ drop j (set d j c) ≡ (front ++ (c ∷ [])) ++ drop (suc j) d
put_last front d c j h =
    let inside : j < length (set d j c) = rw (length-set d j c) h in
    let at : drop j (set d j c) ≡ c ∷ drop (suc j) d =
    drop-cons (set d j c) j 0 inside ∙ ap₂ (λ (x : ℕ) (l : List ℕ). x ∷ l) (get_or-set_same d j c 0 h) (drop-set-lt (suc j) d j c (omega arith)) in
    ap (λ (l : List ℕ). front ++ l) at ∙ sym (append_assoc front (c ∷ []) (drop (suc j) d))

pub record Putting (v : ℕ) (d : List ℕ) (n i : ℕ) : Type 0 where
  pub some_left : 0 < i
  pub size : length d ≡ 20
  pub within : i ≤ 20
  pub small : n < 10 ^ i
  pub is : digits_of i n ++ drop i d ≡ decimal v

pub putting_first : (v : ℕ) (d : List ℕ) → length d ≡ 20 → v < 2 ^ 64 → Putting v d v 20
putting_first v d h l =
    record {
      some_left = omega arith;
      size = h;
      within = omega arith;
      small = omega arith;
      is = ap (λ (x : List ℕ). digits_of 20 v ++ x) (drop_of_length-le d {i = 20} (omega arith)) ∙ append-nil (digits_of 20 v);
    }

module _ {v : ℕ} {d : List ℕ} {n : ℕ} where
  pub putting_on : {i : ℕ} → Putting v d n i → 10 ≤ n → Putting v (set d (i - 1) (48 + n % 10)) (n / 10) (i - 1)
  putting_on {i = zero} p h = absurd (omega (arith, p.some_left))
  putting_on {i = suc zero} p h = absurd (omega (arith, p.small))
  putting_on {i = suc (suc j)} p h =
      let one : suc (suc j) - 1 ≡ suc j = omega arith in
      rw one
      (record {
        some_left = omega arith;
        size = length-set d (suc j) (48 + n % 10) ∙ p.size;
        within = omega (arith, p.within);
        small = omega (arith, p.small, pow-suc 10 (suc j));
        is = put_last (digits_of (suc j) (n / 10)) d (48 + n % 10) (suc j) (omega (arith, p.within, p.size))
            ∙ ap (λ (x : List ℕ). x ++ drop (suc (suc j)) d) (sym (digits_more (suc j) n h)) ∙ p.is;
      })

  pub put_first : {i : ℕ} → Putting v d n i → n < 10 → drop (i - 1) (set d (i - 1) (48 + n)) ≡ decimal v
  put_first {i = zero} p h = absurd (omega (arith, p.some_left))
  put_first {i = suc j} p h =
      let one : suc j - 1 ≡ j = omega arith in
      rw one (put_last [] d (48 + n) j (omega (arith, p.within, p.size)) ∙ ap (λ (x : List ℕ). x ++ drop (suc j) d) (sym (digits_one j n h)) ∙ p.is)
