-- A window of four bytes: its number, the fields inside it, and a field written over a part of it. Assumes nothing.
use mathlib.Core.Path.{◌≡◌, refl, sym, ap, ap₂, ◌∙◌}
use mathlib.Core.List.{List, [], ◌∷◌, ◌++◌, append_assoc}
use Prim.Native.Nat.{ℕ, suc, ◌+◌, ◌-◌, ◌*◌, ◌/◌, ◌%◌, ◌^◌, ◌≤◌, ◌<◌}
use native.Mathlib.Nat.{mod-eq_of_lt, div-one, add-zero}
use native.Mathlib.Omega.{arith}
use lib.ListN.{length, take, drop, get_or, set, length-drop, take-append-drop}
use lib.Seq.{take_at, drop_at, drop-drop, length-take-le, sets-eq}
use Rattle.bits.specs.Bits.{digits, value_of, bits_of, Below}
use Rattle.bits.specs.Take.{field_bits}
use Rattle.bits.specs.Put.{over}
use Rattle.bits.proofs.Digits.{digits_split, digits_low, digits_value_of_at}
use Rattle.bits.proofs.Bytes.{below_take, below_drop, below_bits_of, length_bits_of, bits_of_append, bits_of_cons}
use Rattle.bits.proofs.Fields.{field_in_field}
use Rattle.bits.proofs.Loops.{take_step, spliced}

-- ---- four bytes as one number

-- one byte more
byte_step : (s : List ℕ) (k j : ℕ) → k + j < length s → get_or s (k + j) 0 < 2 ^ 8
    → value_of (field_bits s (8 * j + 8) (8 * k)) ≡ value_of (field_bits s (8 * j) (8 * k)) * 2 ^ 8 + get_or s (k + j) 0
byte_step s k j h l =
    take_step s (8 * k) (8 * j) 8 0 (omega arith) (omega arith)
    ∙ rw (here, div-one, mod-eq_of_lt l)
  where
    here : (8 * k + 8 * j) / 8 ≡ k + j
    here = omega arith

-- the number of the window that begins at the byte k
pub window_is : (s : List ℕ) (k : ℕ) → k + 4 ≤ length s → ((i : ℕ) → get_or s i 0 < 2 ^ 8)
    → ((get_or s k 0 * 2 ^ 8 + get_or s (k + 1) 0) * 2 ^ 8 + get_or s (k + 2) 0) * 2 ^ 8 + get_or s (k + 3) 0 ≡ value_of (field_bits s 32 (8 * k))
unfolding value_of
window_is s k h byte =
    sym (omega (
      arith,
      none,
      rw add-zero at (byte_step s k 0 (omega arith) (byte (k + 0))),
      byte_step s k 1 (omega arith) (byte (k + 1)),
      byte_step s k 2 (omega arith) (byte (k + 2)),
      byte_step s k 3 (omega arith) (byte (k + 3)),
    ))
  where
    none : value_of (field_bits s 0 (8 * k)) ≡ 0
    none = refl

-- ---- bytes written over others

-- the bits of the bytes before the byte k, and of those from k on
module _ (s : List ℕ) (k : ℕ) (h : k ≤ length s) where
  parts : bits_of s ≡ bits_of (take k s) ++ bits_of (drop k s)
  parts = ap bits_of (sym (take-append-drop k s)) ∙ bits_of_append (take k s) (drop k s)

  seam : length (bits_of (take k s)) ≡ 8 * k
  seam = rw (length_bits_of, length-take-le k s h)

  bits_before : bits_of (take k s) ≡ take (8 * k) (bits_of s)
  bits_before = rw parts (sym (take_at (bits_of (take k s)) (bits_of (drop k s)) (8 * k) seam))

  bits_from : bits_of (drop k s) ≡ drop (8 * k) (bits_of s)
  bits_from = rw parts (sym (drop_at (bits_of (take k s)) (bits_of (drop k s)) (8 * k) seam))

-- the bytes of a number, the lowest last: one more in front
byte_before : (j w : ℕ) (l : List ℕ) → bits_of l ≡ digits j w → bits_of (w / 2 ^ j % 2 ^ 8 ∷ l) ≡ digits (8 + j) w
byte_before j w l e =
    bits_of_cons (w / 2 ^ j % 2 ^ 8) l
    ∙ ap₂ (λ (a b : List ℕ). a ++ b) (digits_low 8 (w / 2 ^ j)) e
    ∙ sym (digits_split 8 j w)

no_byte : (w : ℕ) → bits_of [] ≡ digits 0 w
unfolding bits_of digits
no_byte w = refl

-- four bytes stored from k on are a field of 32 bits written there
pub stored : (s : List ℕ) (k w a b c d : ℕ) → k + 4 ≤ length s
    → a ≡ w / 2 ^ 24 % 2 ^ 8 → b ≡ w / 2 ^ 16 % 2 ^ 8 → c ≡ w / 2 ^ 8 % 2 ^ 8 → d ≡ w / 2 ^ 0 % 2 ^ 8
    → bits_of (set (set (set (set s k a) (k + 1) b) (k + 2) c) (k + 3) d) ≡ over (bits_of s) (8 * k) 32 w
unfolding over
stored s k w a b c d h ea eb ec ed =
    rw (one, two, three)
    (ap bits_of (sets-eq (a ∷ b ∷ c ∷ d ∷ []) s k h ∙ append_assoc (take k s) (a ∷ b ∷ c ∷ d ∷ []) (drop (k + 4) s))
    ∙ bits_of_append (take k s) ((a ∷ b ∷ c ∷ d ∷ []) ++ drop (k + 4) s)
    ∙ ap₂ (λ (x y : List ℕ). x ++ y) (bits_before s k (omega arith))
    (bits_of_append (a ∷ b ∷ c ∷ d ∷ []) (drop (k + 4) s)
    ∙ ap₂ (λ (x y : List ℕ). x ++ y) four (bits_from s (k + 4) h ∙ ap (λ (n : ℕ). drop n (bits_of s)) past)))
  where
    one : k + 1 ≡ suc k
    one = omega arith

    two : k + 2 ≡ suc (suc k)
    two = omega arith

    three : k + 3 ≡ suc (suc (suc k))
    three = omega arith

    past : 8 * (k + 4) ≡ 8 * k + 32
    past = omega arith

    four : bits_of (a ∷ b ∷ c ∷ d ∷ []) ≡ digits 32 w
    four = rw (ea, eb, ec, ed) (byte_before 24 w _ (byte_before 16 w _ (byte_before 8 w _ (byte_before 0 w [] (no_byte w)))))

-- v with x over a part of it, written over the bits that v is the number of
pub over_part : (bs : List ℕ) (p o w low x : ℕ) → Below 2 bs → p + (o + (w + low)) ≤ length bs → x < 2 ^ w
    → let v = value_of (take (o + (w + low)) (drop p bs)) in
    over bs p (o + (w + low)) ((v / 2 ^ (w + low) * 2 ^ w + x) * 2 ^ low + v % 2 ^ low) ≡ over bs (p + o) w x
unfolding over
over_part bs p o w low x b h hx =
    rw whole at (spliced (take p bs) (drop (p + n) bs) n v o w low x (p + o) refl hx (ap (λ (l : ℕ). l + o) (length-take-le p bs (omega arith))))
  where
    n : ℕ
    n = o + (w + low)

    v : ℕ
    v = value_of (take n (drop p bs))

    same : digits n v ≡ take n (drop p bs)
    same =
        digits_value_of_at n (take n (drop p bs)) (below_take 2 n (drop p bs) (below_drop 2 p bs b))
        (length-take-le n (drop p bs) (rw length-drop (omega arith)))

    whole : take p bs ++ (digits n v ++ drop (p + n) bs) ≡ bs
    whole = rw (same, ← (drop-drop n p bs), take-append-drop n (drop p bs)) (take-append-drop p bs)

-- ---- a field in the window that begins at the byte k

module _ (s : List ℕ) (k at w : ℕ) (h : k + 4 ≤ length s) (l : 8 * k ≤ at) (m : at + w ≤ 8 * k + 32) where
  begins : 8 * k + (at - 8 * k) ≡ at
  begins = omega arith

  ends : at - 8 * k + (w + (32 - (at - 8 * k) - w)) ≡ 32
  ends = omega arith

  pub window_part : value_of (field_bits s 32 (8 * k)) / 2 ^ (32 - (at - 8 * k) - w) % 2 ^ w ≡ value_of (field_bits s w at)
  window_part = sym (rw (begins, ends) at (field_in_field s (8 * k) (at - 8 * k) w (32 - (at - 8 * k) - w) (omega arith)))

  pub window_over : (v x u low : ℕ) → x < 2 ^ w → low ≡ 32 - (at - 8 * k) - w → v ≡ value_of (field_bits s 32 (8 * k))
      → u ≡ (v / 2 ^ (w + low) * 2 ^ w + x) * 2 ^ low + v % 2 ^ low
      → over (bits_of s) (8 * k) 32 u ≡ over (bits_of s) at w x
  window_over v x u low hx el ev eu =
      rw (eu, ev, el)
      (rw (begins, ends) at (over_part (bits_of s) (8 * k) (at - 8 * k) w (32 - (at - 8 * k) - w) x (below_bits_of s) (rw length_bits_of (omega arith)) hx))
