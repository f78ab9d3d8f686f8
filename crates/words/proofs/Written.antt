-- A word is a number just if it is what is written for a number below 2^64: no needless zero, no sign, nothing else. Assumes nothing.
use Rattle.std.specs.Prelude.{Some, None}
use mathlib.Core.Path.{◌≡◌, refl, sym, ap, ◌∙◌}
use mathlib.Core.Bool.{Bool, true, false, cond}
use mathlib.Core.List.{List, [], ◌∷◌, ◌++◌, append-nil}
use mathlib.Core.Option.{Option, some, none}
use Prim.Native.Nat.{ℕ, suc, ◌+◌, ◌-◌, ◌*◌, ◌^◌, ◌<◌}
use native.Mathlib.Omega.{arith}
use borrow.Author.Tests.{eq-eqb, eqb-true}
use lib.Dec.{eqb}
use lib.ListN.{length, length-append}
use Rattle.pieces.specs.Numbers.{decimal, Found, found, is_digit, digits_from, bounded, decimal_in}
use Rattle.pieces.proofs.Decimals.{decimal_is, decimal_read}
use Rattle.words.specs.Words.{whole, number_in}

-- ---- what is written is a number

-- where a text ends its digits end, as they do in front of a newline
digits_closed : (text : List ℕ) (v n : ℕ) → digits_from v n (text ++ (10 ∷ [])) ≡ digits_from v n text
unfolding digits_from
digits_closed [] v n = refl
digits_closed (c ∷ text) v n = ap (λ (x : Found). cond (is_digit c) x (found v n)) (digits_closed text (10 * v + (c - 48)) (suc n))

decimal_closed : (text : List ℕ) → decimal_in (text ++ (10 ∷ [])) ≡ decimal_in text
unfolding decimal_in
decimal_closed [] = refl
decimal_closed (c ∷ text) =
    ap (λ (x : Found). cond (eqb c 48) (some (found 0 1)) (cond (is_digit c) (bounded x) none)) (digits_closed (c ∷ text) 0 0)

pub number_written : (n : ℕ) → n < 2 ^ 64 → number_in (decimal n) ≡ Some n
unfolding number_in
number_written n h =
    rw (sym (decimal_closed (decimal n)) ∙ decimal_read n 10 [] h refl, eq-eqb (length (decimal n)) (length (decimal n)) refl)

-- ---- and nothing else is

none_left : (front rest : List ℕ) → length front ≡ length (front ++ rest) → front ++ rest ≡ front
none_left front [] e = append-nil front
none_left front (c ∷ rest) e = absurd (omega (arith, length-append front (c ∷ rest)))

module _ (word : List ℕ) (n : ℕ) where
  is_by : (o : Option Found) → decimal_in word ≡ o → whole (length word) o ≡ Some n → (word ≡ decimal n) × (n < 2 ^ 64)
  is_by none e h = let z : ◌≡◌ {A = ℕ} 0 1 = cc in absurd (omega arith)
  is_by (some x) e h = by (eqb x.count (length word)) refl h
    where
      by : (b : Bool) → eqb x.count (length word) ≡ b → cond b (Some x.value) None ≡ Some n → (word ≡ decimal n) × (n < 2 ^ 64)
      by true s t =
          let f = decimal_is word x e in
          let v : x.value ≡ n = cc in
          let l : length (decimal x.value) ≡ length (decimal x.value ++ f.rest) =
          sym f.count ∙ eqb-true x.count (length word) s ∙ ap length f.is in
          rw (← v) (f.is ∙ none_left (decimal x.value) f.rest l, f.small)
      by false s t = let z : ◌≡◌ {A = ℕ} 0 1 = cc in absurd (omega arith)

  pub number_is : number_in word ≡ Some n → (word ≡ decimal n) × (n < 2 ^ 64)
  unfolding number_in
  number_is = is_by (decimal_in word) refl
