-- What a word is by the number that is read at its front. Assumes nothing.
use Rattle.std.specs.Prelude.{Some, None}
use mathlib.Core.Path.{◌≡◌, refl}
use mathlib.Core.List.{List, []}
use mathlib.Core.Option.{Option, some, none}
use Prim.Native.Nat.{ℕ, ◌+◌}
use native.Mathlib.Omega.{arith}
use borrow.Author.Tests.{eq-eqb, ne_eqb}
use lib.ListN.{length}
use Rattle.std.proofs.lemmas.Option.{some_pair_parts}
use Rattle.pieces.specs.Numbers.{Found, read_at, decimal_in}
use Rattle.words.specs.Words.{whole, number_in}

module _ (n v end : ℕ) where
  whole_all : (o : Option Found) → read_at 0 o ≡ Some (v, end) → end ≡ n → whole n o ≡ Some v
  whole_all none e h = let z : ◌≡◌ {A = ℕ} 0 1 = cc in absurd (omega arith)
  whole_all (some x) e h =
      let (a, b) = some_pair_parts x.value v (0 + x.count) end e in
      rw (eq-eqb x.count n (omega arith), a)

  whole_part : (o : Option Found) → read_at 0 o ≡ Some (v, end) → (end ≡ n → ⊥) → whole n o ≡ None
  whole_part none e h = refl
  whole_part (some x) e h =
      let (_, b) = some_pair_parts x.value v (0 + x.count) end e in
      rw (ne_eqb x.count n (λ s. h (omega arith)))

whole_none : (n : ℕ) (o : Option Found) → read_at 0 o ≡ None → whole n o ≡ None
whole_none n none e = refl
whole_none n (some x) e = let z : ◌≡◌ {A = ℕ} 0 1 = cc in absurd (omega arith)

module _ (word : List ℕ) where
  pub number_none : read_at 0 (decimal_in word) ≡ None → number_in word ≡ None
  unfolding number_in
  number_none = whole_none (length word) (decimal_in word)

  module _ (v end : ℕ) (e : read_at 0 (decimal_in word) ≡ Some (v, end)) where
    pub number_all : end ≡ length word → number_in word ≡ Some v
    unfolding number_in
    number_all = whole_all (length word) v end (decimal_in word) e

    pub number_part : (end ≡ length word → ⊥) → number_in word ≡ None
    unfolding number_in
    number_part = whole_part (length word) v end (decimal_in word) e

pub number_empty : number_in [] ≡ None
unfolding number_in decimal_in
number_empty = refl
