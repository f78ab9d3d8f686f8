-- What the code's loops stand on: one turn of reading a field and one of writing it, a byte at a time. Assumes nothing.
use mathlib.Core.Path.{◌≡◌, sym, ap, ◌∙◌, subst}
use mathlib.Core.List.{List, ◌∷◌, ◌++◌, append_assoc}
use Prim.Native.Nat.{ℕ, suc, ◌+◌, ◌-◌, ◌*◌, ◌/◌, ◌%◌, ◌^◌, ◌≤◌, ◌<◌}
use native.Mathlib.Nat.{mod-lt, add_assoc, sub-add_cancel}
use native.Mathlib.Omega.{arith}
use lib.ListN.{length, take, drop, get_or, set, length-append}
use lib.Seq.{take-append-le, drop-append-le, drop_at, take_at, split_at, drop-drop, take-add, length-take-le, set_split}
use lib.Pow.{pow_pos, pow-add, shr_lt, shr-shr}
use lib.Arith.{digits_lt}
use lib.Bits.{bit_or, bit_and, and_mask}
use Rattle.word64.proofs.Words.{one_shl, or_shl}
use Rattle.bits.specs.Bits.{digits, value_of, bits_of}
use Rattle.bits.specs.Take.{field_bits}
use Rattle.bits.proofs.Digits.{length_digits, digits_split, take_digits, drop_digits, digits_low, digits_three, value_of_append, value_of_digits_mod}
use Rattle.bits.proofs.Bytes.{length_bits_of, bits_of_append, bits_of_cons}
use Rattle.bits.proofs.Fields.{length_field_bits, field_lt}

-- ---- a part of a number put anew

join_lt : (j k a b : ℕ) → a < 2 ^ j → b < 2 ^ k → a * 2 ^ k + b < 2 ^ (j + k)
join_lt j k a b h l = rw (pow-add 2 j k) (digits_lt h l)

-- a number of n bits put together anew: its high bits, then t bits of x, then its low bits
module _ (n b x t low : ℕ) (hb : b < 2 ^ n) (e : t + low ≤ n) (hx : x < 2 ^ t) where
  off : ℕ
  off = n - (t + low)

  hi_lt : b / 2 ^ (t + low) < 2 ^ off
  unfolding off
  hi_lt = shr_lt off (t + low) (rw (sub-add_cancel e) hb)

  pub splice_lt : (b / 2 ^ (t + low) * 2 ^ t + x) * 2 ^ low + b % 2 ^ low < 2 ^ n
  unfolding off
  splice_lt =
      let whole : off + t + low ≡ n = omega arith in
      subst (λ (m : ℕ). (b / 2 ^ (t + low) * 2 ^ t + x) * 2 ^ low + b % 2 ^ low < 2 ^ m) whole
      (join_lt (off + t) low _ _ (join_lt off t _ x hi_lt hx) (mod-lt b (pow_pos low)))

  pub splice_is : n ≤ 64 → low < 64
      → bit_or (bit_or (b / 2 ^ (t + low) * 2 ^ t % 2 ^ 64) x * 2 ^ low % 2 ^ 64) (bit_and b (1 * 2 ^ low % 2 ^ 64 - 1))
      ≡ (b / 2 ^ (t + low) * 2 ^ t + x) * 2 ^ low + b % 2 ^ low
  unfolding off
  splice_is l m =
      rw (one_shl low m, and_mask b low, or_shl off t (b / 2 ^ (t + low)) x hi_lt hx (omega arith))
      (or_shl (off + t) low _ _ (join_lt off t _ x hi_lt hx) (mod-lt b (pow_pos low)) (omega arith))

-- ---- the bits around a byte

bits_of_at : (s : List ℕ) (q : ℕ) → q < length s
    → bits_of s ≡ bits_of (take q s) ++ (digits 8 (get_or s q 0) ++ bits_of (drop (suc q) s))
bits_of_at s q h =
    ap bits_of (split_at s q 0 h) ∙ bits_of_append (take q s) _ ∙ ap (λ (l : List ℕ). bits_of (take q s) ++ l) (bits_of_cons _ _)

bits_of_set : (s : List ℕ) (q y : ℕ) → q < length s
    → bits_of (set s q y) ≡ bits_of (take q s) ++ (digits 8 y ++ bits_of (drop (suc q) s))
bits_of_set s q y h =
    ap bits_of (set_split s q y h) ∙ bits_of_append (take q s) (y ∷ drop (suc q) s)
    ∙ ap (λ (l : List ℕ). bits_of (take q s) ++ l) (bits_of_cons y (drop (suc q) s))

length_before : (s : List ℕ) (q : ℕ) → q < length s → length (bits_of (take q s)) ≡ 8 * q
length_before s q h = rw (length_bits_of, length-take-le q s (omega arith))

-- ---- reading

-- t bits inside the byte q, off bits from its highest and low bits from its lowest
take_in_byte : (s : List ℕ) (q off t low : ℕ) → q < length s → off + (t + low) ≡ 8
    → field_bits s t (8 * q + off) ≡ digits t (get_or s q 0 / 2 ^ low)
take_in_byte s q off t low h e =
    rw (← (drop-drop off (8 * q) (bits_of s)), bits_of_at s q h, drop_at _ _ (8 * q) (length_before s q h), ← e)
    (rw (drop-append-le off (digits (off + (t + low)) x) rest (rw length_digits (omega arith)), drop_digits off (t + low) x)
    (rw (take-append-le t (digits (t + low) x) rest (rw length_digits (omega arith))) (take_digits t low x)))
  where
    x : ℕ
    x = get_or s q 0

    rest : List ℕ
    rest = bits_of (drop (suc q) s)

value_in_byte : (s : List ℕ) (k t low : ℕ) → k / 8 < length s → k % 8 + (t + low) ≡ 8
    → value_of (field_bits s t k) ≡ get_or s (k / 8) 0 / 2 ^ low % 2 ^ t
value_in_byte s k t low h e =
    subst (λ (n : ℕ). value_of (field_bits s t n) ≡ get_or s (k / 8) 0 / 2 ^ low % 2 ^ t) at
    (ap value_of (take_in_byte s (k / 8) (k % 8) t low h e) ∙ value_of_digits_mod t (get_or s (k / 8) 0 / 2 ^ low))
  where
    at : 8 * (k / 8) + k % 8 ≡ k
    at = omega arith

-- got bits are read, and the next t lie in one byte, low bits above its lowest
pub take_step : (s : List ℕ) (at got t low : ℕ) → (at + got) / 8 < length s → (at + got) % 8 + (t + low) ≡ 8
    → value_of (field_bits s (got + t) at) ≡ value_of (field_bits s got at) * 2 ^ t + get_or s ((at + got) / 8) 0 / 2 ^ low % 2 ^ t
take_step s at got t low h e =
    rw (take-add got t (drop at (bits_of s)), drop-drop got at (bits_of s), value_of_append)
    (rw (length_field_bits s t (at + got) (omega arith), value_in_byte s (at + got) t low h e))

-- a turn of the loop that reads
pub take_again : (s : List ℕ) (at got t low v x : ℕ) → v ≡ value_of (field_bits s got at)
    → x ≡ get_or s ((at + got) / 8) 0 / 2 ^ low % 2 ^ t → got + t ≤ 64 → (at + got) / 8 < length s → (at + got) % 8 + (t + low) ≡ 8
    → bit_or (v * 2 ^ t % 2 ^ 64) x ≡ value_of (field_bits s (got + t) at)
take_again s at got t low v x ev ex l h e =
    rw (ev, ex)
    (or_shl got t _ _ (field_lt s got at (omega arith)) (mod-lt (get_or s ((at + got) / 8) 0 / 2 ^ low) (pow_pos t)) l
    ∙ sym (take_step s at got t low h e))

-- ---- writing

-- lists in four parts
over_first : (p d m e r : List ℕ) (k : ℕ) → length (p ++ d) ≡ k → take k (p ++ ((d ++ (m ++ e)) ++ r)) ≡ p ++ d
over_first p d m e r k h = rw regroup (take_at (p ++ d) (m ++ (e ++ r)) k h)
  where
    regroup : p ++ ((d ++ (m ++ e)) ++ r) ≡ (p ++ d) ++ (m ++ (e ++ r))
    regroup = simp append_assoc

over_last : (p d m e r : List ℕ) (k t : ℕ) → length (p ++ d) ≡ k → length m ≡ t
    → drop (k + t) (p ++ ((d ++ (m ++ e)) ++ r)) ≡ e ++ r
over_last p d m e r k t h l = rw regroup (drop_at ((p ++ d) ++ m) (e ++ r) (k + t) (rw (length-append (p ++ d) m, h, l)))
  where
    regroup : p ++ ((d ++ (m ++ e)) ++ r) ≡ ((p ++ d) ++ m) ++ (e ++ r)
    regroup = simp append_assoc

-- among bits p and r, a number of n bits is put together anew: its t bits from off on are x, all other bits are as they were
module _ (p r : List ℕ) (n b off t low x k : ℕ) (e : off + (t + low) ≡ n) (hx : x < 2 ^ t) (hk : length p + off ≡ k) where
  d : List ℕ
  d = digits off (b / 2 ^ (t + low))

  m : List ℕ
  m = digits t (b / 2 ^ low)

  z : List ℕ
  z = digits low b

  old : digits n b ≡ d ++ (m ++ z)
  unfolding d m z
  old = rw (← e, digits_split off (t + low) b, digits_split t low b)

  new : digits n ((b / 2 ^ (t + low) * 2 ^ t + x) * 2 ^ low + b % 2 ^ low) ≡ d ++ (digits t x ++ z)
  unfolding d z
  new = rw (← e, digits_three off t low (b / 2 ^ (t + low)) x (b % 2 ^ low) hx (mod-lt b (pow_pos low)), digits_low low b)

  seam : length (p ++ d) ≡ k
  unfolding d
  seam = rw (length-append p d, length_digits off (b / 2 ^ (t + low))) hk

  pub spliced : p ++ (digits n ((b / 2 ^ (t + low) * 2 ^ t + x) * 2 ^ low + b % 2 ^ low) ++ r)
      ≡ take k (p ++ (digits n b ++ r)) ++ (digits t x ++ drop (k + t) (p ++ (digits n b ++ r)))
  unfolding m
  spliced =
      rw (new, old, over_first p d m z r k seam, over_last p d m z r k t seam (length_digits t (b / 2 ^ low)))
      (simp append_assoc)

-- a byte is written whose t bits from off on are x and whose other bits are as they were
put_byte : (s : List ℕ) (q off t low x y : ℕ) → q < length s → off + (t + low) ≡ 8 → x < 2 ^ t
    → y ≡ (get_or s q 0 / 2 ^ (t + low) * 2 ^ t + x) * 2 ^ low + get_or s q 0 % 2 ^ low
    → bits_of (set s q y) ≡ take (8 * q + off) (bits_of s) ++ (digits t x ++ drop (8 * q + off + t) (bits_of s))
put_byte s q off t low x y h e hx ey =
    bits_of_set s q y h
    ∙ rw (ey, bits_of_at s q h)
    (spliced (bits_of (take q s)) (bits_of (drop (suc q) s)) 8 (get_or s q 0) off t low x (8 * q + off) e hx
    (ap (λ (l : ℕ). l + off) (length_before s q h)))

-- done bits of v are written, the next t go over those that follow, and rest are left
put_step : (bs cs : List ℕ) (at done t rest v : ℕ) → at + done ≤ length bs
    → cs ≡ take at bs ++ (digits done (v / 2 ^ (rest + t)) ++ drop (at + done) bs)
    → take (at + done) cs ++ (digits t (v / 2 ^ rest % 2 ^ t) ++ drop (at + done + t) cs)
    ≡ take at bs ++ (digits (done + t) (v / 2 ^ rest) ++ drop (at + (done + t)) bs)
put_step bs cs at done t rest v h e =
    rw (
      ← (drop-drop t (at + done) cs),
      e,
      ← (append_assoc (take at bs) d (drop (at + done) bs)),
      take_at (take at bs ++ d) (drop (at + done) bs) (at + done) len,
    )
    (rw (
      drop_at (take at bs ++ d) (drop (at + done) bs) (at + done) len,
      drop-drop t (at + done) bs,
      digits_low,
      digits_split done t,
      shr-shr,
      add_assoc at done t,
    )
    (simp append_assoc))
  where
    d : List ℕ
    d = digits done (v / 2 ^ (rest + t))

    len : length (take at bs ++ d) ≡ at + done
    len = rw (length-append (take at bs) d, length-take-le at bs (omega arith), length_digits done (v / 2 ^ (rest + t)))

-- a turn of the loop that writes
pub put_again : (s₀ s : List ℕ) (at width done t low v x y : ℕ) → at + width ≤ 8 * length s₀ → done + t ≤ width → 0 < t
    → length s ≡ length s₀ → (at % 8 + done) % 8 + (t + low) ≡ 8
    → bits_of s ≡ take at (bits_of s₀) ++ (digits done (v / 2 ^ (width - done)) ++ drop (at + done) (bits_of s₀))
    → x ≡ v / 2 ^ (width - done - t) % 2 ^ t
    → y ≡ (get_or s (at / 8 + (at % 8 + done) / 8) 0 / 2 ^ (t + low) * 2 ^ t + x) * 2 ^ low + get_or s (at / 8 + (at % 8 + done) / 8) 0 % 2 ^ low
    → bits_of (set s (at / 8 + (at % 8 + done) / 8) y)
    ≡ take at (bits_of s₀) ++ (digits (done + t) (v / 2 ^ (width - (done + t))) ++ drop (at + (done + t)) (bits_of s₀))
put_again s₀ s at width done t low v x y room l pos same e inv ex ey =
    subst (λ (n : ℕ). bits_of (set s q y) ≡ take n (bits_of s) ++ (digits t x ++ drop (n + t) (bits_of s))) where_it_is
    (put_byte s q ((at % 8 + done) % 8) t low x y (omega arith) e (rw ex (mod-lt _ (pow_pos t))) ey)
    ∙ rw (ex, left) (put_step (bits_of s₀) (bits_of s) at done t (width - done - t) v (rw length_bits_of (omega arith)) (rw (sym back) at inv))
  where
    q : ℕ
    q = at / 8 + (at % 8 + done) / 8

    where_it_is : 8 * q + (at % 8 + done) % 8 ≡ at + done
    where_it_is = omega arith

    left : width - (done + t) ≡ width - done - t
    left = omega arith

    back : width - done - t + t ≡ width - done
    back = omega arith
