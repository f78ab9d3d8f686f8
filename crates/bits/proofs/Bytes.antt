-- The laws of the bits of bytes, and of bytes made of bits and back. Assumes nothing.
use mathlib.Core.Path.{◌≡◌, refl, sym, ap, ap₂, ◌∙◌, subst}
use mathlib.Core.List.{List, [], ◌∷◌, ◌++◌, append_assoc, append-nil}
use Prim.Native.Nat.{ℕ, zero, suc, ◌+◌, ◌-◌, ◌*◌, ◌^◌, ◌≤◌, ◌<◌}
use native.Mathlib.Nat.{zero-add, suc-add}
use native.Mathlib.Omega.{arith}
use lib.ListN.{length, take, drop, get_or, replicate, length-append}
use lib.Seq.{drop_at, take_at}
use Rattle.bits.specs.Bits.{digits, value_of, bits_of, bytes_for, filled, packed, bytes_of, Below}
use Rattle.bits.proofs.Digits.{length_digits, below_digits, value_of_digits, value_of_lt, digits_value_of_at}

-- ---- lists of numbers below a bound: of bits and of bytes alike

module _ (k : ℕ) where
  pub below_append : (a b : List ℕ) → Below k a → Below k b → Below k (a ++ b)
  below_append [] b h g = g
  below_append (x ∷ a) b h g = (h.0, below_append a b h.1 g)

  pub below_take : (n : ℕ) (xs : List ℕ) → Below k xs → Below k (take n xs)
  below_take zero xs h = tt
  below_take (suc n) [] h = tt
  below_take (suc n) (x ∷ xs) h = (h.0, below_take n xs h.1)

  pub below_drop : (n : ℕ) (xs : List ℕ) → Below k xs → Below k (drop n xs)
  below_drop zero xs h = h
  below_drop (suc n) [] h = tt
  below_drop (suc n) (x ∷ xs) h = below_drop n xs h.1

  -- what the code knows of a slice, element by element
  pub below_known : (xs : List ℕ) → ((i : ℕ) → get_or xs i 0 < k) → Below k xs
  below_known [] h = tt
  below_known (x ∷ xs) h = (h 0, below_known xs (λ i. h (suc i)))

-- ---- the bits of bytes

pub below_bits_of : (s : List ℕ) → Below 2 (bits_of s)
unfolding bits_of
below_bits_of [] = tt
below_bits_of (x ∷ s) = below_append 2 (digits 8 x) (bits_of s) (below_digits 8 x) (below_bits_of s)

pub length_bits_of : (s : List ℕ) → length (bits_of s) ≡ 8 * length s
unfolding bits_of
length_bits_of [] = refl
length_bits_of (x ∷ s) = rw (length-append, length_digits, length_bits_of s) (omega arith)

pub bits_of_append : (a b : List ℕ) → bits_of (a ++ b) ≡ bits_of a ++ bits_of b
unfolding bits_of
bits_of_append [] b = refl
bits_of_append (x ∷ a) b = rw (bits_of_append a b, append_assoc)

pub bits_of_cons : (x : ℕ) (s : List ℕ) → bits_of (x ∷ s) ≡ digits 8 x ++ bits_of s
unfolding bits_of
bits_of_cons x s = refl

-- ---- a bit string filled up with 0

pub length_filled : (k : ℕ) (bs : List ℕ) → length (filled k bs) ≡ k
unfolding filled
length_filled zero bs = refl
length_filled (suc k) [] = ap suc (length_filled k [])
length_filled (suc k) (b ∷ bs) = ap suc (length_filled k bs)

pub below_filled : (k : ℕ) (bs : List ℕ) → Below 2 bs → Below 2 (filled k bs)
unfolding filled
below_filled zero bs h = tt
below_filled (suc k) [] h = (omega arith, below_filled k [] tt)
below_filled (suc k) (b ∷ bs) h = (h.0, below_filled k bs h.1)

pub filled_add : (j k : ℕ) (bs : List ℕ) → filled (j + k) bs ≡ filled j bs ++ filled k (drop j bs)
unfolding filled
filled_add zero k bs = rw zero-add
filled_add (suc j) k [] = rw suc-add (ap (λ (l : List ℕ). 0 ∷ l) (filled_add j k [] ∙ rw (drop_none j)))
  where
    drop_none : (j : ℕ) → ◌≡◌ {A = List ℕ} (drop j []) []
    drop_none zero = refl
    drop_none (suc j) = refl
filled_add (suc j) k (b ∷ bs) = rw suc-add (ap (λ (l : List ℕ). b ∷ l) (filled_add j k bs))

-- where there are bits enough, none is filled in
pub filled_take : (k : ℕ) (bs : List ℕ) → k ≤ length bs → filled k bs ≡ take k bs
unfolding filled
filled_take zero bs h = refl
filled_take (suc k) [] h = absurd (omega arith)
filled_take (suc k) (b ∷ bs) h = ap (λ (l : List ℕ). b ∷ l) (filled_take k bs (omega arith))

-- the bits themselves come first, and then as many 0 as are missing
pub filled_is : (k m : ℕ) (bs : List ℕ) → k ≡ length bs + m → filled k bs ≡ bs ++ replicate m 0
unfolding filled
filled_is k m [] h = rw (h ∙ zero-add m) (zeros m)
  where
    zeros : (m : ℕ) → filled m [] ≡ replicate m 0
    zeros zero = refl
    zeros (suc m) = ap (λ (l : List ℕ). 0 ∷ l) (zeros m)
filled_is zero m (b ∷ bs) h = absurd (omega arith)
filled_is (suc k) m (b ∷ bs) h = ap (λ (l : List ℕ). b ∷ l) (filled_is k m bs (omega arith))

-- ---- the bytes of a bit string

pub length_packed : (k : ℕ) (bs : List ℕ) → length (packed k bs) ≡ k
unfolding packed
length_packed zero bs = refl
length_packed (suc k) bs = ap suc (length_packed k (drop 8 bs))

pub length_bytes_of : (bs : List ℕ) → length (bytes_of bs) ≡ bytes_for (length bs)
unfolding bytes_of
length_bytes_of bs = length_packed (bytes_for (length bs)) bs

pub below_packed : (k : ℕ) (bs : List ℕ) → Below 2 bs → Below 256 (packed k bs)
unfolding packed
below_packed zero bs h = tt
below_packed (suc k) bs h = (
  subst (λ (n : ℕ). value_of (filled 8 bs) < 2 ^ n) (length_filled 8 bs) (value_of_lt (filled 8 bs) (below_filled 8 bs h)),
  below_packed k (drop 8 bs) (below_drop 2 8 bs h),
)

pub below_bytes_of : (bs : List ℕ) → Below 2 bs → Below 256 (bytes_of bs)
unfolding bytes_of
below_bytes_of bs h = below_packed (bytes_for (length bs)) bs h

-- bits to bytes and back: the bits of the first k bytes are the first 8 k bits, filled with 0
pub bits_of_packed : (k : ℕ) (bs : List ℕ) → Below 2 bs → bits_of (packed k bs) ≡ filled (8 * k) bs
unfolding packed filled bits_of
bits_of_packed zero bs h = refl
bits_of_packed (suc k) bs h =
    bits_of_cons (value_of (filled 8 bs)) (packed k (drop 8 bs))
    ∙ ap₂ (λ (a b : List ℕ). a ++ b)
    (digits_value_of_at 8 (filled 8 bs) (below_filled 8 bs h) (length_filled 8 bs))
    (bits_of_packed k (drop 8 bs) (below_drop 2 8 bs h))
    ∙ sym (filled_add 8 (8 * k) bs)
    ∙ ap (λ (n : ℕ). filled n bs) more
  where
    more : 8 + 8 * k ≡ 8 * suc k
    more = omega arith

-- the bits of a bit string's bytes are the bit string, filled up with 0
pub bits_of_bytes_of : (bs : List ℕ) → Below 2 bs
    → bits_of (bytes_of bs) ≡ bs ++ replicate (8 * bytes_for (length bs) - length bs) 0
unfolding bytes_of
bits_of_bytes_of bs h =
    bits_of_packed (bytes_for (length bs)) bs h
    ∙ filled_is (8 * bytes_for (length bs)) (8 * bytes_for (length bs) - length bs) bs (omega arith)

-- of whole bytes, nothing is filled in
pub bits_of_bytes_of_whole : (bs : List ℕ) (k : ℕ) → length bs ≡ 8 * k → Below 2 bs → bits_of (bytes_of bs) ≡ bs
unfolding bytes_of
bits_of_bytes_of_whole bs k e h =
    bits_of_packed (bytes_for (length bs)) bs h ∙ filled_is (8 * bytes_for (length bs)) 0 bs (omega arith) ∙ append-nil bs

-- the bit string can be had back from its bytes
pub take_bits_of_bytes_of : (bs : List ℕ) → Below 2 bs → take (length bs) (bits_of (bytes_of bs)) ≡ bs
take_bits_of_bytes_of bs h = rw (bits_of_bytes_of bs h) (take_at bs _ (length bs) refl)

-- bytes to bits and back
pub packed_bits_of : (s : List ℕ) → Below 256 s → packed (length s) (bits_of s) ≡ s
unfolding packed bits_of
packed_bits_of [] h = refl
packed_bits_of (x ∷ s) h =
    ap₂ (λ (y : ℕ) (ys : List ℕ). y ∷ ys)
    (ap value_of
    (filled_take 8 (digits 8 x ++ bits_of s) (rw (length-append, length_digits) (omega arith))
    ∙ take_at (digits 8 x) (bits_of s) 8 (length_digits 8 x))
    ∙ value_of_digits 8 x h.0)
    (ap (packed (length s)) (drop_at (digits 8 x) (bits_of s) 8 (length_digits 8 x)) ∙ packed_bits_of s h.1)

pub bytes_of_bits_of : (s : List ℕ) → Below 256 s → bytes_of (bits_of s) ≡ s
unfolding bytes_of
bytes_of_bits_of s h = ap (λ (n : ℕ). packed n (bits_of s)) same ∙ packed_bits_of s h
  where
    same : bytes_for (length (bits_of s)) ≡ length s
    same = rw (length_bits_of s) (omega arith)

-- bytes are known by their bits
pub same_bits : (s t : List ℕ) → Below 256 s → Below 256 t → bits_of s ≡ bits_of t → s ≡ t
same_bits s t h g e = sym (bytes_of_bits_of s h) ∙ ap bytes_of e ∙ bytes_of_bits_of t g

-- so what has a bit string's bits, filled up with 0, is its bytes
pub bytes_are : (s bs : List ℕ) → Below 256 s → Below 2 bs
    → bits_of s ≡ bs ++ replicate (8 * bytes_for (length bs) - length bs) 0 → s ≡ bytes_of bs
bytes_are s bs h g e = same_bits s (bytes_of bs) h (below_bytes_of bs g) (e ∙ sym (bits_of_bytes_of bs g))
