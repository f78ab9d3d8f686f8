-- A second run that puts a telegram's fields into lent bytes: what it has stored, and that its bits are those of the telegram's bytes.
-- Assumes nothing.
use mathlib.Core.Bool.{Bool, true}
use mathlib.Core.Path.{◌≡◌, refl, sym, ap, ap₂, ◌∙◌}
use mathlib.Core.List.{List, [], ◌∷◌, ◌++◌, append_assoc}
use Prim.Native.Nat.{ℕ, suc, ◌+◌, ◌-◌, ◌*◌, ◌/◌, ◌^◌, ◌<◌, ◌≤◌}
use native.Mathlib.Nat.{zero-add, add-zero}
use native.Mathlib.Omega.{arith}
use borrow.Author.Tests.{lt-ltb}
use lib.Dec.{ltb}
use lib.ListN.{length, take, drop, set, replicate, length-append, length-set, length-replicate, take-append-drop, replicate-append-replicate}
use lib.Seq.{take_at, drop_at, length-take-le, drop-drop, drop-append-le, set_split}
use Rattle.bits.specs.Bits.{digits, bits_of, bytes_for, bytes_of, Below}
use Rattle.bits.specs.Put.{over, Put}
use Rattle.bits.proofs.Digits.{length_digits}
use Rattle.bits.proofs.Bytes.{below_append, below_drop, below_bytes_of, length_bits_of, bits_of_append, bits_of_cons, bits_of_bytes_of, bytes_of_bits_of, length_bytes_of}
use Rattle.bits.proofs.Fields.{length_over, put_writes, bits_of_put_at}
use Rattle.format.specs.Rules.{paper}
use Rattle.format.specs.Table.{field_at}
use Rattle.format.specs.Telegrams.{Entry, bits, Telegram}
use Rattle.format.specs.Telegrams.Result.{accepted}
use Rattle.laws.proofs.Demand2.{below_bits, room}
use Rattle.laws.proofs.Tile.{tiled}
use Rattle.states.specs.Along.{Onward}
use Rattle.states.specs.Writer.{bytes_over}
use Rattle.states.specs.declared.Todo.{Todo}
use Rattle.states.proofs.Runs.{stored, value_due, rest_due, bits_front, narrow, low, small}

-- ---- bits stored over bits

module _ (bs : List ℕ) (at w v : ℕ) (h : at + w ≤ length bs) where
  abbrev front : List ℕ
  front = take at bs ++ digits w v

  over_front : over bs at w v ≡ front ++ drop (at + w) bs
  unfolding over
  over_front = sym (append_assoc (take at bs) (digits w v) (drop (at + w) bs))

  length_front : length front ≡ at + w
  length_front = length-append (take at bs) (digits w v) ∙ ap₂ (λ (a b : ℕ). a + b) (length-take-le at bs (omega arith)) (length_digits w v)

  take_over : take (at + w) (over bs at w v) ≡ front
  take_over = ap (take (at + w)) over_front ∙ take_at front (drop (at + w) bs) (at + w) length_front

  drop_over : (k : ℕ) → drop (k + (at + w)) (over bs at w v) ≡ drop (at + w + k) bs
  drop_over k =
      let c : k + (at + w) ≡ at + w + k = omega arith in
      ap (λ (m : ℕ). drop m (over bs at w v)) c
      ∙ sym (drop-drop k (at + w) (over bs at w v))
      ∙ ap (drop k) (ap (drop (at + w)) over_front ∙ drop_at front (drop (at + w) bs) (at + w) length_front)
      ∙ drop-drop k (at + w) bs

  pub drop_behind : drop (at + w) (over bs at w v) ≡ drop (at + w) bs
  drop_behind = ap (λ (k : ℕ). drop k (over bs at w v)) (sym (zero-add (at + w))) ∙ drop_over 0 ∙ ap (λ (k : ℕ). drop k bs) (add-zero (at + w))

  -- a field and more behind it is more behind a field that is written
  stored_over : (xs : List ℕ) → stored bs (digits w v ++ xs) at ≡ stored (over bs at w v) xs (at + w)
  stored_over xs =
      let c : length (digits w v ++ xs) + at ≡ at + w + length xs =
      ap (λ (k : ℕ). k + at) (length-append (digits w v) xs ∙ ap (λ (k : ℕ). k + length xs) (length_digits w v)) ∙ omega arith in
      ap (λ (k : ℕ). take at bs ++ ((digits w v ++ xs) ++ drop k bs)) c
      ∙ ap (λ (y : List ℕ). take at bs ++ y) (append_assoc (digits w v) xs (drop (at + w + length xs) bs))
      ∙ sym (append_assoc (take at bs) (digits w v) (xs ++ drop (at + w + length xs) bs))
      ∙ ap₂ (λ (a d : List ℕ). a ++ (xs ++ d)) (sym take_over) (sym (drop_over (length xs)))

stored_none : (ys : List ℕ) (k : ℕ) → stored ys [] k ≡ ys
stored_none ys k = ap (λ (m : ℕ). take k ys ++ drop m ys) (zero-add k) ∙ take-append-drop k ys

-- ---- the last byte, cleared

zero_byte : digits 8 0 ≡ replicate 8 0
unfolding digits
zero_byte = refl

zeros_left : (m : ℕ) → m ≤ 8 → drop m (digits 8 0) ≡ replicate (8 - m) 0
zeros_left m h =
    let c : 8 ≡ m + (8 - m) = omega arith in
    ap (drop m) (zero_byte ∙ ap (λ (k : ℕ). replicate k 0) c ∙ sym (replicate-append-replicate m (8 - m) 0))
    ∙ drop_at (replicate m 0) (replicate (8 - m) 0) m (length-replicate m 0)

-- from the m-th bit of byte q on, 0 to the byte's end and then the bits of the bytes behind it
cleared : (s : List ℕ) (q m : ℕ) → m ≤ 8 → q < length s
    → drop (8 * q + m) (bits_of (set s q 0)) ≡ replicate (8 - m) 0 ++ bits_of (drop (suc q) s)
cleared s q m h l =
    let before = bits_of (take q s) in
    let behind = bits_of (drop (suc q) s) in
    let split : bits_of (set s q 0) ≡ before ++ (digits 8 0 ++ behind) =
    ap bits_of (set_split s q 0 l)
    ∙ bits_of_append (take q s) (0 ∷ drop (suc q) s)
    ∙ ap (λ (y : List ℕ). before ++ y) (bits_of_cons 0 (drop (suc q) s)) in
    let size : length before ≡ 8 * q = length_bits_of (take q s) ∙ ap (λ (k : ℕ). 8 * k) (length-take-le q s (omega arith)) in
    ap (drop (8 * q + m)) split
    ∙ sym (drop-drop m (8 * q) (before ++ (digits 8 0 ++ behind)))
    ∙ ap (drop m) (drop_at before (digits 8 0 ++ behind) (8 * q) size)
    ∙ drop-append-le m (digits 8 0) behind (rw (length_digits 8 0) h)
    ∙ ap (λ (y : List ℕ). y ++ behind) (zeros_left m h)

-- a bit string in front of bytes that have 0 behind it up to a byte's end is its bytes in front of the bytes behind them
pub bytes_behind : (bs base rest : List ℕ) → Below 2 bs → Below 256 rest
    → drop (length bs) (bits_of base) ≡ replicate (8 * bytes_for (length bs) - length bs) 0 ++ bits_of rest
    → bytes_of (bs ++ drop (length bs) (bits_of base)) ≡ bytes_of bs ++ rest
bytes_behind bs base rest b g e =
    let zeros : List ℕ = replicate (8 * bytes_for (length bs) - length bs) 0 in
    ap bytes_of
    (ap (λ (y : List ℕ). bs ++ y) e
    ∙ sym (append_assoc bs zeros (bits_of rest))
    ∙ ap (λ (y : List ℕ). y ++ bits_of rest) (sym (bits_of_bytes_of bs b))
    ∙ sym (bits_of_append (bytes_of bs) rest))
    ∙ bytes_of_bits_of (bytes_of bs ++ rest) (below_append 256 (bytes_of bs) rest (below_bytes_of bs b) g)

-- such are bytes whose byte of its last bit is cleared
bytes_over_lem : (bs s : List ℕ) → Below 2 bs → Below 256 s → 0 < length bs → length bs ≤ 8 * length s
    → bytes_of (bs ++ drop (length bs) (bits_of (set s ((length bs - 1) / 8) 0))) ≡ bytes_of bs ++ drop (length (bytes_of bs)) s
bytes_over_lem bs s b g p l =
    let n = length bs in
    let q = (n - 1) / 8 in
    let m = n - 8 * q in
    let en : n ≡ 8 * q + m = omega arith in
    let em : 8 - m ≡ 8 * bytes_for n - n = omega arith in
    let eq : suc q ≡ length (bytes_of bs) = let c : suc q ≡ bytes_for n = omega arith in c ∙ sym (length_bytes_of bs) in
    bytes_behind bs (set s q 0) (drop (length (bytes_of bs)) s) b (below_drop 256 (length (bytes_of bs)) s g)
    (ap (λ (k : ℕ). drop k (bits_of (set s q 0))) en
    ∙ cleared s q m (omega arith) (omega arith)
    ∙ ap₂ (λ (j k : ℕ). replicate j 0 ++ bits_of (drop k s)) em eq)

-- ---- a telegram of n bits

module _ {es : List Entry} (t : Telegram paper es) {n : ℕ} (e : n ≡ length (bits es)) where
  pub some_bits : 0 < n
  some_bits = let h = tiled paper t in omega (arith, e, h.all)

  pub few_bits : n ≤ 830
  few_bits = let r = room paper t in omega (arith, e)

  -- the last byte is one of those lent
  pub last_in : {room : ℕ} → 104 ≤ room → (n - 1) / 8 < room
  last_in h = omega (arith, few_bits)

-- ---- a turn

-- before a field: with the bits that are left stored from bit at on, the bits are those of the telegram es and behind them what was there.
-- The bytes were base before the first.
pub record Laid (es : List Entry) (n : ℕ) (base out : List ℕ) (at : ℕ) (left : List Entry) : Type 0 where
  pub telegram : Telegram paper es
  pub size : n ≡ length (bits es)
  pub holds : bits es ++ drop n (bits_of base) ≡ stored (bits_of out) (bits left) at
  pub keeps : length out ≡ length base
  pub room : 104 ≤ length base

-- before the first field
pub laid_first : {es : List Entry} {n : ℕ} (base : List ℕ) → Telegram paper es → n ≡ length (bits es) → 104 ≤ length base
    → Laid es n base base 0 es
laid_first {es} {n} base t e h =
    record {
      telegram = t;
      size = e;
      holds = ap (λ (k : ℕ). bits es ++ drop k (bits_of base)) (e ∙ sym (add-zero (length (bits es))));
      keeps = refl;
      room = h;
    }

-- the field that is due is put with its value
module _ {es : List Entry} {n : ℕ} {base out : List ℕ} {at : ℕ} {left : List Entry} (g : Laid es n base out at left)
    {t : Todo} (o : Onward t at left) {w : ℕ} (ew : w ≡ (field_at t.node).width) {v : ℕ} (ev : v ≡ value_due o)
    {wrote : Bool} {after : List ℕ} (p : Put out at w v wrote after) where
  pub inside : at + w ≤ 8 * length out
  inside = omega (arith, low o ew, g.keeps, g.room)

  inside_bits : at + w ≤ length (bits_of out)
  inside_bits = rw (length_bits_of out) inside

  fits : ltb v (2 ^ w) ≡ true
  fits = lt-ltb v (2 ^ w) (rw ev (small o ew))

  pub bits_after : bits_of after ≡ over (bits_of out) at w v
  bits_after = ap bits_of p.contents ∙ bits_of_put_at out at w v (narrow o ew) inside fits

  pub length_after : length after ≡ length base
  length_after =
      let h : 8 * length after ≡ 8 * length out =
      sym (length_bits_of after) ∙ ap length bits_after ∙ length_over (bits_of out) at w v inside_bits ∙ length_bits_of out in
      omega (arith, g.keeps)

  -- no byte is lost since the last was cleared
  pub same_size : (before : List ℕ) → base ≡ set before ((n - 1) / 8) 0 → length after ≡ length before
  same_size before e = length_after ∙ ap length e ∙ length-set before ((n - 1) / 8) 0

  -- what is stored with the field
  holds_after : bits es ++ drop n (bits_of base) ≡ stored (over (bits_of out) at w v) (bits (rest_due o)) (at + w)
  holds_after =
      g.holds
      ∙ ap (λ (xs : List ℕ). stored (bits_of out) xs at) (bits_front o ew ∙ ap (λ (u : ℕ). digits w u ++ bits (rest_due o)) (sym ev))
      ∙ stored_over (bits_of out) at w v inside_bits (bits (rest_due o))

  -- after the last the bits are the telegram's, and behind them what was there
  pub laid_all : rest_due o ≡ [] → after ≡ bytes_of (bits es ++ drop n (bits_of base))
  laid_all m =
      p.contents
      ∙ put_writes out at w v (narrow o ew) inside fits
      ∙ ap bytes_of
      (sym
      (holds_after
      ∙ ap (λ (l : List Entry). stored (over (bits_of out) at w v) (bits l) (at + w)) m
      ∙ stored_none (over (bits_of out) at w v) (at + w)))

  -- so the bytes are its own, if the last byte was cleared
  pub laid_whole : rest_due o ≡ [] → (before : List ℕ) → Below 256 before → base ≡ set before ((n - 1) / 8) 0
      → after ≡ bytes_over (accepted es) before
  laid_whole m before b e =
      let tiles = tiled paper g.telegram in
      let within = room paper g.telegram in
      let eb : length base ≡ length before = ap length e ∙ length-set before ((n - 1) / 8) 0 in
      laid_all m
      ∙ ap (λ (l : List ℕ). bytes_of (bits es ++ drop n (bits_of l))) e
      ∙ ap (λ (k : ℕ). bytes_of (bits es ++ drop k (bits_of (set before ((k - 1) / 8) 0)))) g.size
      ∙ bytes_over_lem (bits es) before (below_bits es) b (omega (arith, tiles.all)) (omega (arith, g.room))

  -- after another the run goes on
  pub laid_on : {rest : List Entry} → rest_due o ≡ rest → Laid es n base after (at + w) rest
  laid_on m =
      record {
        telegram = g.telegram;
        size = g.size;
        holds =
            holds_after
            ∙ ap₂ (λ (l : List ℕ) (r : List Entry). stored l (bits r) (at + w)) (sym bits_after) m;
        keeps = length_after;
        room = g.room;
      }
