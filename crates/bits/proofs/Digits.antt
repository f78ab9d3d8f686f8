-- The laws of digits and of the number that a list of bits is, each once for every width. Assumes nothing.
use mathlib.Core.Path.{◌≡◌, refl, sym, ap, ap₂, ◌∙◌}
use mathlib.Core.List.{List, [], ◌∷◌, ◌++◌, append_assoc}
use Prim.Native.Nat.{ℕ, zero, suc, ◌+◌, ◌*◌, ◌/◌, ◌%◌, ◌^◌, ◌<◌}
use native.Mathlib.Nat.{zero-add, suc-add, zero-mul, add-mul, mul_assoc, add_assoc, add_comm, mod-lt, mod-mod, mod-eq_of_lt, mod-one}
use native.Mathlib.Numerals.{one-add}
use native.Mathlib.Omega.{arith}
use lib.ListN.{length, take, drop, length-append}
use lib.Seq.{drop_at, take_at}
use lib.Arith.{digits_lt}
use lib.Pow.{pow-add, mod-pow-add, field, mod-mod-pow, high, low, shr-shr}
use Rattle.bits.specs.Bits.{digits, value_of, Below}

-- ---- the digits of a number

pub length_digits : (w v : ℕ) → length (digits w v) ≡ w
unfolding digits
length_digits zero v = refl
length_digits (suc w) v = ap suc (length_digits w v)

pub below_digits : (w v : ℕ) → Below 2 (digits w v)
unfolding digits
below_digits zero v = tt
below_digits (suc w) v = (mod-lt (v / 2 ^ w) (omega arith), below_digits w v)

-- the digits of a number are its high ones and then its low ones
pub digits_split : (j w v : ℕ) → digits (j + w) v ≡ digits j (v / 2 ^ w) ++ digits w v
unfolding digits
digits_split zero w v = rw zero-add
digits_split (suc j) w v = rw (suc-add, digits_split j w v, shr-shr v w j, add_comm w j)

pub take_digits : (j w v : ℕ) → take j (digits (j + w) v) ≡ digits j (v / 2 ^ w)
take_digits j w v = rw digits_split (take_at (digits j (v / 2 ^ w)) (digits w v) j (length_digits j (v / 2 ^ w)))

pub drop_digits : (j w v : ℕ) → drop j (digits (j + w) v) ≡ digits w v
drop_digits j w v = rw digits_split (drop_at (digits j (v / 2 ^ w)) (digits w v) j (length_digits j (v / 2 ^ w)))

-- only the w low digits of the number count
pub digits_low : (w v : ℕ) → digits w (v % 2 ^ w) ≡ digits w v
unfolding digits
digits_low zero v = refl
digits_low (suc w) v =
    ap₂ (λ (b : ℕ) (bs : List ℕ). b ∷ bs)
    (rw (← (one-add w), field v 1 w) (mod-mod (v / 2 ^ w) 2))
    (sym (digits_low w (v % 2 ^ suc w)) ∙ ap (digits w) (rw (← (one-add w)) (mod-mod-pow v 1 w)) ∙ digits_low w v)

-- the digits of a number put together of a high and a low part, and of three parts
pub digits_join : (j k hi lo : ℕ) → lo < 2 ^ k → digits (j + k) (hi * 2 ^ k + lo) ≡ digits j hi ++ digits k lo
digits_join j k hi lo h =
    digits_split j k (hi * 2 ^ k + lo)
    ∙ ap₂ (λ (a b : List ℕ). a ++ b)
    (ap (digits j) (high hi k h))
    (sym (digits_low k (hi * 2 ^ k + lo)) ∙ ap (digits k) (low hi k h))

pub digits_three : (i j k hi x lo : ℕ) → x < 2 ^ j → lo < 2 ^ k
    → digits (i + (j + k)) ((hi * 2 ^ j + x) * 2 ^ k + lo) ≡ digits i hi ++ (digits j x ++ digits k lo)
digits_three i j k hi x lo hx hl =
    rw (← (add_assoc i j k), digits_join (i + j) k (hi * 2 ^ j + x) lo hl, digits_join i j hi x hx, append_assoc)

-- ---- the number that a list of bits is

-- the clause as an equation: where a clause has fired, `rw` sees no call any more
pub value_of_cons : (b : ℕ) (bs : List ℕ) → value_of (b ∷ bs) ≡ b * 2 ^ length bs + value_of bs
unfolding value_of
value_of_cons b bs = refl

pub value_of_append : (a b : List ℕ) → value_of (a ++ b) ≡ value_of a * 2 ^ length b + value_of b
unfolding value_of
value_of_append [] b = rw (zero-mul, zero-add)
value_of_append (x ∷ a) b =
    rw (value_of_append a b, length-append a b, pow-add, value_of_cons x a, add-mul, mul_assoc, add_assoc)

pub value_of_lt : (bs : List ℕ) → Below 2 bs → value_of bs < 2 ^ length bs
unfolding value_of
value_of_lt [] h = omega arith
value_of_lt (b ∷ bs) h = rw (← (one-add (length bs)), pow-add) (digits_lt h.0 (value_of_lt bs h.1))

-- ---- digits and back

-- the digits of any number have the value of its low digits
pub value_of_digits_mod : (w v : ℕ) → value_of (digits w v) ≡ v % 2 ^ w
unfolding digits value_of
value_of_digits_mod zero v = sym (mod-one v)
value_of_digits_mod (suc w) v =
    value_of_cons (v / 2 ^ w % 2) (digits w v)
    ∙ rw (length_digits w v, value_of_digits_mod w v, ← (one-add w), mod-pow-add v 1 w)

-- reading the digits of a number that fits gives the number
pub value_of_digits : (w v : ℕ) → v < 2 ^ w → value_of (digits w v) ≡ v
value_of_digits w v h = value_of_digits_mod w v ∙ mod-eq_of_lt h

-- the digits of what was read are the bits
pub digits_value_of : (bs : List ℕ) → Below 2 bs → digits (length bs) (value_of bs) ≡ bs
unfolding digits value_of
digits_value_of [] h = refl
digits_value_of (b ∷ bs) h =
    ap₂ (λ (x : ℕ) (xs : List ℕ). x ∷ xs)
    (rw (high b (length bs) (value_of_lt bs h.1)) (mod-eq_of_lt h.0))
    (sym (digits_low (length bs) (b * 2 ^ length bs + value_of bs))
    ∙ ap (digits (length bs)) (low b (length bs) (value_of_lt bs h.1))
    ∙ digits_value_of bs h.1)

pub digits_value_of_at : (w : ℕ) (bs : List ℕ) → Below 2 bs → length bs ≡ w → digits w (value_of bs) ≡ bs
digits_value_of_at w bs h e = rw (← e) (digits_value_of bs h)

-- the number of w bits inside a list of bits is a part of the list's number: the low bits after them are shifted out
pub value_of_part : (bs : List ℕ) (o w low : ℕ) → Below 2 bs → length bs ≡ o + (w + low)
    → value_of (take w (drop o bs)) ≡ value_of bs / 2 ^ low % 2 ^ w
value_of_part bs o w low h e =
    ap (λ (l : List ℕ). value_of (take w (drop o l))) (sym (digits_value_of_at (o + (w + low)) bs h e))
    ∙ rw (drop_digits o (w + low) (value_of bs), take_digits w low (value_of bs)) (value_of_digits_mod w (value_of bs / 2 ^ low))
