-- The laws of taking and putting a field, for whoever goes by these definitions. Assumes nothing.
use Rattle.std.specs.Prelude.{Some, None, Option}
use Rattle.bits.proofs.Pairs.{held_both}
use mathlib.Core.Path.{◌≡◌, refl, sym, ap, ◌∙◌, subst}
use mathlib.Core.List.{List, ◌++◌}
use mathlib.Core.Bool.{Bool, true, false, cond, ◌&&◌}
use Prim.Native.Nat.{ℕ, ◌+◌, ◌*◌, ◌/◌, ◌%◌, ◌^◌, ◌≤◌, ◌<◌}
use native.Mathlib.Nat.{lt_of_not-le}
use native.Mathlib.Decide.{dec_le}
use native.Mathlib.Omega.{arith}
use borrow.Author.Tests.{leb-true, le-leb, lt-leb}
use lib.Dec.{leb, ltb}
use lib.ListN.{length, take, drop, length-append, length-drop}
use lib.Seq.{take_at, take-add, take-take, drop_at, drop-drop, length-take-le}
use Rattle.bits.specs.Bits.{digits, value_of, bits_of, bytes_for, bytes_of, Below}
use Rattle.bits.specs.Take.{inside, field_bits, taken_if, taken_at, skip_at}
use Rattle.bits.specs.Put.{over, put_at, Put}
use Rattle.bits.specs.declared.Cursor.{Cursor}
use Rattle.bits.proofs.Digits.{length_digits, below_digits, value_of_lt, value_of_digits, value_of_part}
use Rattle.bits.proofs.Bytes.{below_append, below_take, below_drop, below_bits_of, length_bits_of, bytes_of_bits_of, bits_of_bytes_of_whole}

-- ---- the bits of a field

pub length_field_bits : (s : List ℕ) (w at : ℕ) → at + w ≤ 8 * length s → length (field_bits s w at) ≡ w
length_field_bits s w at h = length-take-le w (drop at (bits_of s)) (rw (length-drop, length_bits_of) (omega arith))

pub below_field_bits : (s : List ℕ) (w at : ℕ) → Below 2 (field_bits s w at)
below_field_bits s w at = below_take 2 w (drop at (bits_of s)) (below_drop 2 at (bits_of s) (below_bits_of s))

-- a field of w bits holds a number of w bits
pub field_lt : (s : List ℕ) (w at : ℕ) → at + w ≤ 8 * length s → value_of (field_bits s w at) < 2 ^ w
field_lt s w at h =
    subst (λ (n : ℕ). value_of (field_bits s w at) < 2 ^ n) (length_field_bits s w at h)
    (value_of_lt (field_bits s w at) (below_field_bits s w at))

-- what is cut out of the first bits of a list is cut out of the list
take_in : (l : List ℕ) (o w low : ℕ) → o ≤ length l → take w (drop o (take (o + (w + low)) l)) ≡ take w (drop o l)
take_in l o w low h =
    rw (take-add o (w + low) l, drop_at (take o l) (take (w + low) (drop o l)) o (length-take-le o l h))
    (take-take w (w + low) (drop o l) (omega arith))

-- a field of w bits inside a longer one, o bits from its highest and low bits from its lowest
pub field_in_field : (s : List ℕ) (at o w low : ℕ) → at + (o + (w + low)) ≤ 8 * length s
    → value_of (field_bits s w (at + o)) ≡ value_of (field_bits s (o + (w + low)) at) / 2 ^ low % 2 ^ w
field_in_field s at o w low h =
    ap value_of same
    ∙ value_of_part (field_bits s (o + (w + low)) at) o w low (below_field_bits s (o + (w + low)) at)
    (length_field_bits s (o + (w + low)) at h)
  where
    same : field_bits s w (at + o) ≡ take w (drop o (field_bits s (o + (w + low)) at))
    same = rw (← (drop-drop o at (bits_of s))) (sym (take_in (drop at (bits_of s)) o w low (rw (length-drop, length_bits_of) (omega arith))))

-- ---- taking

-- the bytes of n bits are there where n bits are
pub room_by_bytes : (n k : ℕ) → leb (bytes_for n) k ≡ leb n (8 * k)
room_by_bytes n k = by (dec_le n (8 * k))
  where
    by : Dec (n ≤ 8 * k) → leb (bytes_for n) k ≡ leb n (8 * k)
    by (yes h) = le-leb (bytes_for n) k (omega arith) ∙ sym (le-leb n (8 * k) h)
    by (no h) = let l = lt_of_not-le h in lt-leb (bytes_for n) k (omega arith) ∙ sym (lt-leb n (8 * k) l)

-- what a field that was taken is
pub record IsField (s : List ℕ) (n width at v next : ℕ) : Type 0 where
  pub narrow : width ≤ 64
  pub within : at + width ≤ n
  pub room : n ≤ 8 * length s
  pub value : v ≡ value_of (field_bits s width at)
  pub small : v < 2 ^ width
  pub past : next ≡ at + width

module _ (s : List ℕ) (n width at : ℕ) where
  by_tests : (v : ℕ) (c : Cursor) (p q r : Bool) → leb width 64 ≡ p → leb (at + width) n ≡ q → leb n (8 * length s) ≡ r
      → taken_if (p && q && r) (Some (value_of (field_bits s width at), record { at = at + width })) ≡ Some (v, c)
      → IsField s n width at v c.at
  by_tests v c true true true hp hq hr e =
      let found : ◌≡◌ {A = Option (ℕ × Cursor)} (Some (value_of (field_bits s width at), record { at = at + width })) (Some (v, c)) = cc in
      let (ev, ec) = held_both _ _ _ _ found in
      let w = leb-true (at + width) n hq in
      let l = leb-true n (8 * length s) hr in
      record {
        narrow = leb-true width 64 hp;
        within = w;
        room = l;
        value = sym ev;
        small = rw (← ev) (field_lt s width at (omega arith));
        past = sym (ap (λ (x : Cursor). x.at) ec);
      }
  by_tests v c true true false hp hq hr e = let z : ◌≡◌ {A = ℕ} 0 1 = cc in absurd (omega arith)
  by_tests v c true false r hp hq hr e = let z : ◌≡◌ {A = ℕ} 0 1 = cc in absurd (omega arith)
  by_tests v c false q r hp hq hr e = let z : ◌≡◌ {A = ℕ} 0 1 = cc in absurd (omega arith)

  pub taken : (v : ℕ) (c : Cursor) → taken_at s n width at ≡ Some (v, c) → IsField s n width at v c.at
  unfolding taken_at
  taken v c e = by_tests v c (leb width 64) (leb (at + width) n) (leb n (8 * length s)) refl refl refl e

  -- the same by the one test of the definition
  pub inside_field : inside s n width at ≡ true → IsField s n width at (value_of (field_bits s width at)) (at + width)
  unfolding taken_at
  inside_field e = taken _ (record { at = at + width }) (rw e)

  pub take_outside : inside s n width at ≡ false → taken_at s n width at ≡ None
  unfolding taken_at
  take_outside e = rw e

  -- a whole field is taken
  pub take_whole : width ≤ 64 → at + width ≤ n → n ≤ 8 * length s
      → taken_at s n width at ≡ Some (value_of (field_bits s width at), record { at = at + width })
  unfolding taken_at
  take_whole w h l = simp (le-leb width 64 w, le-leb (at + width) n h, le-leb n (8 * length s) l)

  -- one that ends past n is not
  pub take_past : width ≤ 64 → n < at + width → taken_at s n width at ≡ None
  unfolding taken_at
  take_past w h = simp (le-leb width 64 w, lt-leb (at + width) n h)

-- a part of a field that was taken, o bits from its first and low bits from its last
pub take_part : (s : List ℕ) (n o w low at v x next : ℕ) → IsField s n (o + (w + low)) at v next → w ≤ 64 → v / 2 ^ low % 2 ^ w ≡ x
    → taken_at s n w (at + o) ≡ Some (x, record { at = at + o + w })
take_part s n o w low at v x next f l e =
    let g = f.within in
    let b = f.room in
    take_whole s n w (at + o) l (omega arith) b
    ∙ ap (λ (y : ℕ). Some (y, record { at = at + o + w })) (field_in_field s at o w low (omega arith) ∙ rw (← f.value) e)

-- ---- going past bits

-- where a cursor behind them is
pub record IsPast (n bits at next : ℕ) : Type 0 where
  pub within : at + bits ≤ n
  pub past : next ≡ at + bits

module _ (n bits at : ℕ) where
  pub skip_whole : at + bits ≤ n → skip_at n bits at ≡ Some (record { at = at + bits })
  unfolding skip_at
  skip_whole h = rw (le-leb (at + bits) n h)

  pub skip_past : n < at + bits → skip_at n bits at ≡ None
  unfolding skip_at
  skip_past h = rw (lt-leb (at + bits) n h)

  by_test : (c : Cursor) (b : Bool) → leb (at + bits) n ≡ b → cond b (Some (record { at = at + bits })) None ≡ Some c → IsPast n bits at c.at
  by_test c true h e =
      let ec : ◌≡◌ {A = Cursor} (record { at = at + bits }) c = cc in
      record { within = leb-true (at + bits) n h; past = sym (ap (λ (x : Cursor). x.at) ec) }
  by_test c false h e = let z : ◌≡◌ {A = ℕ} 0 1 = cc in absurd (omega arith)

  pub skipped : (c : Cursor) → skip_at n bits at ≡ Some c → IsPast n bits at c.at
  unfolding skip_at
  skipped c e = by_test c (leb (at + bits) n) refl e

-- ---- putting

module _ (bs : List ℕ) (at width value : ℕ) (h : at + width ≤ length bs) where
  pub length_over : length (over bs at width value) ≡ length bs
  unfolding over
  length_over = simp (length-append, length_digits, length-drop, length-take-le at bs (omega arith)) (omega arith)

  pub below_over : Below 2 bs → Below 2 (over bs at width value)
  unfolding over
  below_over b =
      below_append 2 (take at bs) (digits width value ++ drop (at + width) bs) (below_take 2 at bs b)
      (below_append 2 (digits width value) (drop (at + width) bs) (below_digits width value) (below_drop 2 (at + width) bs b))

  -- the number in the bits that a field was written over is the value written
  pub read_over : value < 2 ^ width → value_of (take width (drop at (over bs at width value))) ≡ value
  unfolding over
  read_over small =
      rw (
        drop_at (take at bs) (digits width value ++ drop (at + width) bs) at (length-take-le at bs (omega arith)),
        take_at (digits width value) (drop (at + width) bs) width (length_digits width value),
      )
      (value_of_digits width value small)

module _ (s : List ℕ) (at width value : ℕ) where
  -- the promise of `put`, by the tests that it makes: too wide, past the end, too large, and else written
  pub put_wide : 64 < width → Put s at width value false s
  unfolding put_at
  put_wide w = record { answer = simp (lt-leb width 64 w); contents = simp (lt-leb width 64 w) }

  pub put_past : width ≤ 64 → 8 * length s < at + width → Put s at width value false s
  unfolding put_at
  put_past w h = record {
    answer = simp (le-leb width 64 w, lt-leb (at + width) (8 * length s) h);
    contents = simp (le-leb width 64 w, lt-leb (at + width) (8 * length s) h);
  }

  pub put_large : width ≤ 64 → at + width ≤ 8 * length s → ltb value (2 ^ width) ≡ false → Put s at width value false s
  unfolding put_at
  put_large w h l = record {
    answer = simp (le-leb width 64 w, le-leb (at + width) (8 * length s) h, l);
    contents = simp (le-leb width 64 w, le-leb (at + width) (8 * length s) h, l);
  }

  module _ (w : width ≤ 64) (h : at + width ≤ 8 * length s) (small : ltb value (2 ^ width) ≡ true) where
    pub put_writes : put_at s at width value ≡ bytes_of (over (bits_of s) at width value)
    unfolding put_at
    put_writes = simp (le-leb width 64 w, le-leb (at + width) (8 * length s) h, small)

    pub put_whole : (t : List ℕ) → Below 256 t → bits_of t ≡ over (bits_of s) at width value → Put s at width value true t
    put_whole t b e = record {
      answer = simp (le-leb width 64 w, le-leb (at + width) (8 * length s) h, small);
      contents = sym (bytes_of_bits_of t b) ∙ ap bytes_of e ∙ sym put_writes;
    }

    -- the bits of what is then lent
    pub bits_of_put_at : bits_of (put_at s at width value) ≡ over (bits_of s) at width value
    bits_of_put_at =
        let inside : at + width ≤ length (bits_of s) = rw (length_bits_of s) h in
        ap bits_of put_writes
        ∙ bits_of_bytes_of_whole (over (bits_of s) at width value) (length s)
        (length_over (bits_of s) at width value inside ∙ length_bits_of s)
        (below_over (bits_of s) at width value inside (below_bits_of s))
