-- The laws of lines of characters, and what the code's loops stand on. Assumes nothing.
use Rattle.std.specs.Prelude.{Ok, Err}
use mathlib.Core.Path.{◌≡◌, refl, sym, ap, ap₂, ◌∙◌, subst}
use mathlib.Core.Bool.{Bool, true, false, cond, ◌&&◌}
use mathlib.Core.List.{List, [], ◌∷◌, ◌++◌}
use Prim.Native.Nat.{ℕ, zero, suc, ◌+◌, ◌*◌, ◌^◌, ◌≤◌, ◌<◌}
use native.Mathlib.Nat.{add-zero, le_trans}
use native.Mathlib.Numerals.{add-one}
use native.Mathlib.Omega.{arith}
use borrow.Author.Tests.{le-leb, lt-leb}
use lib.Dec.{eqb}
use lib.ListN.{length, drop, get_or, set, length-map, get_or-map, get_or-eq_default}
use lib.Seq.{drop-cons, drop-drop, get_or-drop, set_at, append_snoc}
use lib.Pow.{pow_mono}
use Rattle.bits.specs.Bits.{value_of, filled, packed, bytes_of, bytes_for, Below}
use Rattle.bits.proofs.Digits.{value_of_append, value_of_lt}
use Rattle.bits.proofs.Bytes.{length_filled, below_filled, filled_add, length_packed, below_drop}
use Rattle.packing.specs.Packing.{is_bit, binary, bit_of, bits_in, bytes_over, packed_of, pack_into, Pack}
use Rattle.packing.specs.declared.PackError.TheVariants.{Other, Room}

-- ---- the characters of a line

module _ (line : List ℕ) (i : ℕ) (h : i < length line) where
  binary_at : binary (drop i line) ≡ (is_bit (get_or line i 0) && binary (drop (i + 1) line))
  unfolding binary
  binary_at =
      ap binary (drop-cons line i 0 h)
      ∙ ap (λ (k : ℕ). is_bit (get_or line i 0) && binary (drop k line)) (sym (add-one i))

  -- the characters before are of 0 and 1, and so is what is left of the line: with one character more before
  pub binary_more : (before after : Bool) → after ≡ (before && is_bit (get_or line i 0)) → (before && binary (drop i line)) ≡ (after && binary (drop (i + 1) line))
  binary_more true after e = rw e binary_at
  binary_more false after e = rw e

-- ---- the bits that they write

pub length_bits_in : (line : List ℕ) → length (bits_in line) ≡ length line
length_bits_in line = length-map line bit_of

pub below_bits_in : (line : List ℕ) → Below 2 (bits_in line)
below_bits_in [] = tt
below_bits_in (c ∷ line) = (small (eqb c 49), below_bits_in line)
  where
    small : (b : Bool) → cond b 1 0 < 2
    small true = omega arith
    small false = omega arith

module _ (line : List ℕ) (at j : ℕ) where
  pub bit_is : get_or (drop at (bits_in line)) j 0 ≡ bit_of (get_or line (at + j) 0)
  bit_is = get_or-drop at (bits_in line) j 0 ∙ get_or-map bit_of line (at + j) 0

  pub bit_none : length line ≤ at + j → get_or (drop at (bits_in line)) j 0 ≡ 0
  bit_none h = bit_is ∙ ap bit_of (get_or-eq_default line 0 h)

-- ---- a byte of them

filled_one : (bs : List ℕ) → filled 1 bs ≡ get_or bs 0 0 ∷ []
unfolding filled
filled_one [] = refl
filled_one (b ∷ bs) = refl

value_one : (b : ℕ) → value_of (b ∷ []) ≡ b
unfolding value_of
value_one b = omega arith

-- one bit more
pub value_again : (bs : List ℕ) (j : ℕ) → 2 * value_of (filled j bs) + get_or bs j 0 ≡ value_of (filled (j + 1) bs)
value_again bs j =
    let last : filled 1 (drop j bs) ≡ get_or bs j 0 ∷ [] =
    filled_one (drop j bs) ∙ ap (λ (b : ℕ). b ∷ []) (get_or-drop j bs 0 0 ∙ ap (λ (n : ℕ). get_or bs n 0) (add-zero j)) in
    let all : value_of (filled (j + 1) bs) ≡ value_of (filled j bs) * 2 ^ 1 + get_or bs j 0 =
    ap value_of (filled_add j 1 bs ∙ ap (λ (l : List ℕ). filled j bs ++ l) last)
    ∙ value_of_append (filled j bs) (get_or bs j 0 ∷ [])
    ∙ ap (λ (n : ℕ). value_of (filled j bs) * 2 ^ 1 + n) (value_one (get_or bs j 0)) in
    omega arith

pub value_small : (line : List ℕ) (at j : ℕ) → j ≤ 8 → value_of (filled j (drop at (bits_in line))) < 256
value_small line at j h =
    let bs : List ℕ = drop at (bits_in line) in
    let lt : value_of (filled j bs) < 2 ^ length (filled j bs) =
    value_of_lt (filled j bs) (below_filled j bs (below_drop 2 at (bits_in line) (below_bits_in line))) in
    le_trans (subst (λ (n : ℕ). value_of (filled j bs) < 2 ^ n) (length_filled j bs) lt) (pow_mono h)

-- ---- the bytes, from the front

packed_suc : (i : ℕ) (bs : List ℕ) → packed (suc i) bs ≡ packed i bs ++ (value_of (filled 8 (drop (8 * i) bs)) ∷ [])
unfolding packed
packed_suc zero bs = refl
packed_suc (suc i) bs =
    ap (λ (l : List ℕ). value_of (filled 8 bs) ∷ l)
    (packed_suc i (drop 8 bs)
    ∙ ap (λ (l : List ℕ). packed i (drop 8 bs) ++ (value_of (filled 8 l) ∷ []))
    (drop-drop (8 * i) 8 bs ∙ ap (λ (n : ℕ). drop n bs) more))
  where
    more : 8 + 8 * i ≡ 8 * suc i
    more = omega arith

-- one byte more, stored behind those that are there
pub store_again : (bs before : List ℕ) (i : ℕ) → i < length before
    → set (packed i bs ++ drop i before) i (value_of (filled 8 (drop (8 * i) bs))) ≡ packed (i + 1) bs ++ drop (i + 1) before
store_again bs before i h =
    ap (λ (l : List ℕ). set (packed i bs ++ l) i y) (drop-cons before i 0 h)
    ∙ set_at (packed i bs) (get_or before i 0) (drop (suc i) before) y i (length_packed i bs)
    ∙ sym (append_snoc (packed i bs) y (drop (suc i) before))
    ∙ ap (λ (l : List ℕ). l ++ drop (suc i) before) (sym (packed_suc i bs))
    ∙ ap (λ (n : ℕ). packed n bs ++ drop n before) (sym (add-one i))
  where
    y : ℕ
    y = value_of (filled 8 (drop (8 * i) bs))

pub stored_all : (line before : List ℕ) (k : ℕ) → k ≡ bytes_for (length line) → packed k (bits_in line) ++ drop k before ≡ bytes_over line before
unfolding bytes_of bytes_over
stored_all line before k e =
    ap₂ (λ (a b : ℕ). packed a (bits_in line) ++ drop b before) (e ∙ ap bytes_for (sym (length_bits_in line))) e

-- ---- the promise of `pack`, by the tests that it makes

module _ (line before : List ℕ) where
  pub pack_other : binary line ≡ false → Pack line before (Err Other) before
  unfolding packed_of pack_into
  pack_other b = record { answer = simp b; contents = simp b }

  pub pack_roomless : binary line ≡ true → length before < bytes_for (length line) → Pack line before (Err Room) before
  unfolding packed_of pack_into
  pack_roomless b h = record {
    answer = simp (b, lt-leb (bytes_for (length line)) (length before) h);
    contents = simp (b, lt-leb (bytes_for (length line)) (length before) h);
  }

  pub pack_whole : binary line ≡ true → bytes_for (length line) ≤ length before
      → Pack line before (Ok (length line)) (bytes_over line before)
  unfolding packed_of pack_into
  pack_whole b h = record {
    answer = simp (b, le-leb (bytes_for (length line)) (length before) h);
    contents = simp (b, le-leb (bytes_for (length line)) (length before) h);
  }
