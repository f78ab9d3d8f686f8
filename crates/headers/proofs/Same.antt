-- Two bit strings are the same where their parts hold the same numbers. Assumes nothing.
use mathlib.Core.Bool.{Bool, true, false, ◌&&◌}
use mathlib.Core.List.{List, [], ◌∷◌}
use mathlib.Core.Path.{◌≡◌, refl, sym, ap, ap₂, ◌∙◌}
use Prim.Native.Nat.{ℕ, zero, suc, ◌+◌, ◌-◌, ◌*◌, ◌≤◌}
use native.Mathlib.Omega.{arith}
use borrow.Author.Tests.{eq-eqb, ne_eqb, eqb-true, eqb-false}
use lib.Dec.{eqb}
use lib.ListN.{length, take, drop, length-drop}
use lib.Seq.{take-add, take-take, drop_at, drop-drop, length-take-le}
use Rattle.bits.specs.Bits.{bits_of, value_of, digits, Below, same}
use Rattle.bits.proofs.Digits.{digits_value_of}
use Rattle.bits.proofs.Same.{same_true, same_self}
use Rattle.bits.proofs.Bytes.{below_take, below_drop, below_bits_of, length_bits_of}
use Rattle.headers.specs.Headers.{number_at}
use Rattle.headers.proofs.Numbers.{drop_all, number_is}

-- ---- the same

-- of as many, by the first w and the others
pub same_split : (w : ℕ) (xs ys : List ℕ) → length xs ≡ length ys → same xs ys ≡ (same (take w xs) (take w ys) && same (drop w xs) (drop w ys))
same_split zero xs ys h = refl
same_split (suc w) [] [] h = refl
same_split (suc w) [] (y ∷ ys) h = absurd (omega arith)
same_split (suc w) (x ∷ xs) [] h = absurd (omega arith)
same_split (suc w) (x ∷ xs) (y ∷ ys) h =
    ap (λ (b : Bool). eqb x y && b) (same_split w xs ys (omega arith)) ∙ sym (assoc (eqb x y) (same (take w xs) (take w ys)) (same (drop w xs) (drop w ys)))
  where
    assoc : (a b c : Bool) → ((a && b) && c) ≡ (a && (b && c))
    assoc true b c = refl
    assoc false b c = refl

-- as many bits are the same where they are the same number
pub same_value : (xs ys : List ℕ) → Below 2 xs → Below 2 ys → length xs ≡ length ys → same xs ys ≡ eqb (value_of xs) (value_of ys)
same_value xs ys p q h = by_test (eqb (value_of xs) (value_of ys)) refl (same xs ys) refl
  where
    by_test : (b : Bool) → eqb (value_of xs) (value_of ys) ≡ b → (c : Bool) → same xs ys ≡ c → same xs ys ≡ b
    by_test true e c f =
        let i : xs ≡ ys = sym (digits_value_of xs p) ∙ ap₂ digits h (eqb-true (value_of xs) (value_of ys) e) ∙ digits_value_of ys q in
        ap (λ (l : List ℕ). same xs l) (sym i) ∙ same_self xs
    by_test false e true f = absurd (eqb-false (value_of xs) (value_of ys) e (ap value_of (same_true xs ys f)))
    by_test false e false f = f

-- ---- the loop over two bodies

-- what is cut out of the first bits of a list is cut out of the list
pub cut_in : (l : List ℕ) (o w n : ℕ) → o + w ≤ n → n ≤ length l → take w (drop o (take n l)) ≡ take w (drop o l)
cut_in l o w n h k = by_rest (n - (o + w)) (omega arith)
  where
    by_rest : (low : ℕ) → n ≡ o + (w + low) → take w (drop o (take n l)) ≡ take w (drop o l)
    by_rest low e =
        rw (e, take-add o (w + low) l, drop_at (take o l) (take (w + low) (drop o l)) o (length-take-le o l (omega arith)))
        (take-take w (w + low) (drop o l) (omega arith))

abbrev pub bits_in : List ℕ → ℕ → List ℕ
bits_in u n = take n (bits_of u)

length_in : (u : List ℕ) (n : ℕ) → n ≤ 8 * length u → length (bits_in u n) ≡ n
length_in u n h = let l = length_bits_of u in length-take-le n (bits_of u) (omega arith)

below_in : (u : List ℕ) (n : ℕ) → Below 2 (bits_in u n)
below_in u n = below_take 2 n (bits_of u) (below_bits_of u)

-- what was passed is the same
pub record Pairing (u v : List ℕ) (n at : ℕ) : Type 0 where
  pub same : same (drop 50 (bits_in u n)) (drop 50 (bits_in v n)) ≡ same (drop at (bits_in u n)) (drop at (bits_in v n))

pub pairing_first : (u v : List ℕ) (n : ℕ) → Pairing u v n 50
pairing_first u v n = record { same = refl }

module _ {u v : List ℕ} {n at : ℕ} (g : Pairing u v n at) (hu : n ≤ 8 * length u) (hv : n ≤ 8 * length v) (w : ℕ) (hw : at + w ≤ n) (few : w ≤ 64) where
  part_value : (x : List ℕ) → n ≤ 8 * length x → value_of (take w (drop at (bits_in x n))) ≡ number_at x n at w
  part_value x h = let l = length_bits_of x in ap value_of (cut_in (bits_of x) at w n hw (omega arith)) ∙ sym (number_is x n at w few hw h)

  part_length : (x : List ℕ) → n ≤ 8 * length x → length (take w (drop at (bits_in x n))) ≡ w
  part_length x h =
      let c = length_in x n h in
      let d = length-drop at (bits_in x n) in
      length-take-le w (drop at (bits_in x n)) (omega arith)

  part_below : (x : List ℕ) → Below 2 (take w (drop at (bits_in x n)))
  part_below x = below_take 2 w (drop at (bits_in x n)) (below_drop 2 at (bits_in x n) (below_in x n))

  paired : same (drop 50 (bits_in u n)) (drop 50 (bits_in v n))
      ≡ (eqb (number_at u n at w) (number_at v n at w) && same (drop (at + w) (bits_in u n)) (drop (at + w) (bits_in v n)))
  paired =
      let cu = length_in u n hu in
      let cv = length_in v n hv in
      let du = length-drop at (bits_in u n) in
      let dv = length-drop at (bits_in v n) in
      let x = drop at (bits_in u n) in
      let y = drop at (bits_in v n) in
      let i : same (take w x) (take w y) ≡ eqb (number_at u n at w) (number_at v n at w) =
      same_value (take w x) (take w y) (part_below u) (part_below v) (part_length u hu ∙ sym (part_length v hv)) ∙ ap₂ eqb (part_value u hu) (part_value v hv) in
      g.same ∙ same_split w x y (omega arith) ∙ ap₂ ◌&&◌ i (ap₂ same (drop-drop w at (bits_in u n)) (drop-drop w at (bits_in v n)))

  pub pairing_on : number_at u n at w ≡ number_at v n at w → Pairing u v n (at + w)
  pairing_on e = record { same = paired ∙ rw (eq-eqb (number_at u n at w) (number_at v n at w) e) }

  pub pairing_fails : (number_at u n at w ≡ number_at v n at w → ⊥) → false ≡ same (drop 50 (bits_in u n)) (drop 50 (bits_in v n))
  pairing_fails e = sym (paired ∙ rw (ne_eqb (number_at u n at w) (number_at v n at w) e))

pub pairing_end : {u v : List ℕ} {n at : ℕ} → Pairing u v n at → n ≤ 8 * length u → n ≤ 8 * length v → n ≤ at
    → true ≡ same (drop 50 (bits_in u n)) (drop 50 (bits_in v n))
pairing_end {u} {v} {n} {at} g hu hv h =
    let cu = length_in u n hu in
    let cv = length_in v n hv in
    sym (g.same ∙ ap₂ same (drop_all at (bits_in u n) (omega arith)) (drop_all at (bits_in v n) (omega arith)))
