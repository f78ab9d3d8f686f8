-- Steps from line to line, in the shapes of the functions that take them; and that what is kept lies within the line. Assumes nothing.
use Rattle.std.specs.Prelude.{Ok, Err, Result}
use mathlib.Core.Path.{◌≡◌, refl, sym, ap, ◌∙◌}
use mathlib.Core.Bool.{Bool, true, false, cond}
use mathlib.Core.List.{List, [], ◌++◌}
use Prim.Native.Nat.{ℕ, ◌+◌, ◌-◌, ◌≤◌, ◌<◌, min}
use native.Mathlib.Nat.{lt_of_not-le}
use native.Mathlib.Decide.{dec_le}
use native.Mathlib.Omega.{arith}
use borrow.Author.Tests.{lt-ltb, le-ltb, eq-eqb, ne_eqb}
use lib.ListN.{length, take, drop, length-take, length-drop, length-append, drop_of_length-le}
use lib.Seq.{length-take-le}
use Rattle.blocks.specs.Ends.{up_to_end, ends}
use Rattle.blocks.specs.Reading.{left, held, fitting, over, in_hand, stop, taken_on, TakesOn, stopped, fresh, arrived_at, arrived_line, Arrives, Arrival, Steps, Held, Keeps}
use Rattle.blocks.specs.declared.ReadFailed.{ReadFailed}
use Rattle.blocks.specs.declared.Input.{Input}
use Rattle.blocks.proofs.Parts.{take_least}

-- ---- what is kept of the line in hand

module _ (line : List ℕ) (i : Input) where
  pub held_none : i.whole ≡ true → Held line i 0
  held_none e = record { within = omega arith; text = rw e }

  pub held_some : i.whole ≡ false → (n : ℕ) → n ≡ min i.kept (length line) → Held line i n
  held_some e n m =
      let o : n ≡ min (length line) i.kept = omega arith in
      record { within = omega arith; text = take_least n i.kept line o ∙ rw e }

  pub held_length : (n : ℕ) → Held line i n → n ≡ length (held line i)
  held_length n h = sym (ap length (sym h.text) ∙ length-take-le n line h.within)

-- ---- a block taken on

least_take : (m k : ℕ) (l : List ℕ) → m ≡ min k (length l) → take m l ≡ take k l
least_take m k l e = let o : m ≡ min (length l) k = omega arith in take_least m k l o

least_drop : (a k n : ℕ) (l : List ℕ) → length l ≡ n → a ≡ min k n → drop a l ≡ drop k l
least_drop a k n l h e = by (dec_le k n)
  where
    by : Dec (k ≤ n) → drop a l ≡ drop k l
    by (yes g) = let same : a ≡ k = omega arith in ap (λ (j : ℕ). drop j l) same
    by (no g) = let m = lt_of_not-le g in drop_of_length-le l {i = a} (omega arith) ∙ sym (drop_of_length-le l {i = k} (omega arith))

abbrev made : Input → ℕ → ℕ → ℕ → Bool → Input
made i a b k w = record { from = a; to = b; kept = k; whole = w; ended = i.ended; failed = i.failed }

made_same : (i : Input) {a a' b b' k k' : ℕ} {w w' : Bool} → a ≡ a' → b ≡ b' → k ≡ k' → w ≡ w' → made i a b k w ≡ made i a' b' k' w'
made_same i {a} {a'} {b} {b'} {k} {k'} {w} {w'} p q r s =
    ap (λ (x : ℕ). made i x b k w) p ∙ ap (λ (x : ℕ). made i a' x k w) q ∙ ap (λ (x : ℕ). made i a' b' x w) r
    ∙ ap (λ (x : Bool). made i a' b' k' x) s

module _ (block line : List ℕ) (i : Input) (to from e h kept : ℕ) (line' : List ℕ) (t : to ≡ min i.to (length block))
    (f : from ≡ min i.from to) (x : e ≡ from + up_to_end (drop from (take to block))) (g : Held line i h)
    (k : Keeps h line (take (e - from) (drop from (take to block))) kept line') where
  size : length (take to block) ≡ to
  size = length-take-le to block (omega arith)

  rest_is : drop from (take to block) ≡ left block i
  rest_is = least_drop from i.from to (take to block) size f ∙ ap (drop i.from) (least_take to i.to block t)

  up_to : up_to_end (left block i) ≡ e - from
  up_to = ap up_to_end (sym rest_is) ∙ (omega (arith, x))

  behind : from ≤ e
  behind = omega (arith, x)

  left_size : length (left block i) ≡ to - from
  left_size = ap length (sym rest_is) ∙ length-drop from (take to block) ∙ ap (λ (n : ℕ). n - from) size

  in_hand_lem : take h line ++ take (e - from) (drop from (take to block)) ≡ in_hand block line i
  unfolding in_hand
  in_hand_lem =
      ap (λ (l : List ℕ). l ++ take (e - from) (drop from (take to block))) g.text
      ∙ ap (λ (l : List ℕ). held line i ++ take (e - from) l) rest_is
      ∙ ap (λ (n : ℕ). held line i ++ take n (left block i)) (sym up_to)

  count : kept ≡ length (fitting (in_hand block line i) line)
  count = k.count ∙ ap (λ (l : List ℕ). length (fitting l line)) in_hand_lem

  text : line' ≡ over (in_hand block line i) line
  text = k.text ∙ ap (λ (l : List ℕ). over l line) in_hand_lem

  pub takes_some : e < to → TakesOn block line i (made i (e + 1) to kept true) line'
  unfolding taken_on
  takes_some l =
      let y : up_to_end (left block i) < length (left block i) = omega (arith, up_to, left_size, behind) in
      let w : ends (left block i) ≡ true = lt-ltb (up_to_end (left block i)) (length (left block i)) y in
      let a : e + 1 ≡ i.from + up_to_end (left block i) + 1 = omega (arith, up_to, behind) in
      record {
        stands = made_same i (a ∙ sym (ap (λ (b : Bool). cond b (i.from + up_to_end (left block i) + 1) (stop block i)) w)) t count (sym w);
        text = text;
      }

  pub takes_rest : to ≤ e → TakesOn block line i (made i to to kept false) line'
  unfolding taken_on
  takes_rest l =
      let y : length (left block i) ≤ up_to_end (left block i) = omega (arith, up_to, left_size) in
      let w : ends (left block i) ≡ false = le-ltb (up_to_end (left block i)) (length (left block i)) y in
      record {
        stands = made_same i (t ∙ sym (ap (λ (b : Bool). cond b (i.from + up_to_end (left block i) + 1) (stop block i)) w)) t count (sym w);
        text = text;
      }

-- ---- a block that arrives

module _ (block line : List ℕ) (i : Input) (n : ℕ) where
  module _ (z : n ≡ 0) where
    none_at : arrived_at block line i (Ok n) ≡ stopped (length (held line i)) false
    none_at = rw (eq-eqb n 0 z)

    none_line : arrived_line block line i (Ok n) ≡ line
    none_line = rw (eq-eqb n 0 z)

  module _ (some : n ≡ 0 → ⊥) where
    some_at : arrived_at block line i (Ok n) ≡ taken_on block line (fresh n i)
    some_at = rw (ne_eqb n 0 some)

    some_line : arrived_line block line i (Ok n) ≡ over (in_hand block line (fresh n i)) line
    some_line = rw (ne_eqb n 0 some)

module _ (block line : List ℕ) (i : Input) (got : Result ℕ ReadFailed) where
  pub arrives_failed : (why : ReadFailed) (r : Input) → got ≡ Err why → r ≡ stopped 0 true → Arrives block line i got r line
  arrives_failed why r e f = rw e (record { stands = f; text = refl })

  module _ (n : ℕ) (e : got ≡ Ok n) where
    pub arrives_none : (r : Input) (h : ℕ) → n ≡ 0 → Held line i h → r ≡ stopped h false → Arrives block line i got r line
    arrives_none r h z g f =
        rw e (record {
          stands = f ∙ ap (λ (m : ℕ). stopped m false) (held_length line i h g) ∙ sym (none_at block line i n z);
          text = sym (none_line block line i n z);
        })

    pub arrives_some : (r : Input) (line' : List ℕ) → (n ≡ 0 → ⊥) → TakesOn block line (fresh n i) r line' → Arrives block line i got r line'
    arrives_some r line' some g =
        rw e (record { stands = g.stands ∙ sym (some_at block line i n some); text = g.text ∙ sym (some_line block line i n some) })

-- ---- one step

module _ (block line : List ℕ) (i : Input) where
  pub steps_nowhere : i.ended ≡ true → Steps block line i i block line
  steps_nowhere e =
      record {
        stays = λ _. (refl, refl, refl);
        goes = λ o. let z : ◌≡◌ {A = ℕ} 0 1 = cc in absurd (omega arith);
        reads = λ o. let z : ◌≡◌ {A = ℕ} 0 1 = cc in absurd (omega arith);
      }

  module _ (o : i.ended ≡ false) (r : Input) (line' : List ℕ) where
    pub steps_on : i.from < i.to → TakesOn block line i r line' → Steps block line i r block line'
    steps_on l g =
        record {
          stays = λ e. let z : ◌≡◌ {A = ℕ} 0 1 = cc in absurd (omega arith);
          goes = λ _ _. (refl, g);
          reads = λ _ m. absurd (omega (arith, l, m));
        }

    pub steps_read : (block' : List ℕ) → i.to ≤ i.from → Arrival block' line i r line' → Steps block line i r block' line'
    steps_read block' l g =
        record {
          stays = λ e. let z : ◌≡◌ {A = ℕ} 0 1 = cc in absurd (omega arith);
          goes = λ _ m. absurd (omega (arith, l, m));
          reads = λ _ _. g;
        }

-- ---- what is kept lies within the line

held_few : (line : List ℕ) (i : Input) → length (held line i) ≤ length line
held_few line i = by i.whole
  where
    by : (b : Bool) → length (cond b [] (take i.kept line)) ≤ length line
    by true = omega arith
    by false = omega (arith, length-take i.kept line)

takes_fit : {block line line' : List ℕ} {i r : Input} → TakesOn block line i r line' → r.kept ≤ length line'
unfolding taken_on
takes_fit {block} {line} {line'} {i} {r} h =
    let n : r.kept ≡ length (fitting (in_hand block line i) line) = ap (λ (x : Input). x.kept) h.stands in
    let l = ap length h.text
    ∙ length-append (fitting (in_hand block line i) line) (drop (length (fitting (in_hand block line i) line)) line) in
    omega (arith, n, l)

arrives_fit : (block line line' : List ℕ) (i r : Input) (got : Result ℕ ReadFailed) → Arrives block line i got r line' → r.kept ≤ length line'
arrives_fit block line line' i r (Err _) h = let n : r.kept ≡ 0 = ap (λ (x : Input). x.kept) h.stands in omega (arith, n)
arrives_fit block line line' i r (Ok n) h = by (dec_le n 0)
  where
    by : Dec (n ≤ 0) → r.kept ≤ length line'
    by (yes z) =
        let none : n ≡ 0 = omega arith in
        let k : r.kept ≡ length (held line i) = ap (λ (x : Input). x.kept) (h.stands ∙ none_at block line i n none) in
        let same = ap length (h.text ∙ none_line block line i n none) in
        omega (arith, k, same, held_few line i)
    by (no z) =
        let some : n ≡ 0 → ⊥ = λ e. z (omega arith) in
        takes_fit {i = fresh n i}
        (record { stands = h.stands ∙ some_at block line i n some; text = h.text ∙ some_line block line i n some })

-- behind the end all stays as it was, whatever that is
pub step_fits : {block line block' line' : List ℕ} {i r : Input} → i.ended ≡ false → Steps block line i r block' line' → r.kept ≤ length line'
step_fits {block} {line} {block'} {line'} {i} {r} o h = by (dec_le i.to i.from)
  where
    by : Dec (i.to ≤ i.from) → r.kept ≤ length line'
    by (yes l) = arrives_fit block' line line' i r (h.reads o l).got (h.reads o l).arrives
    by (no l) = takes_fit (h.goes o (lt_of_not-le l)).1
