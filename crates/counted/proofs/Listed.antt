-- Lists that are counted keep their rules: a group, N_ITER, and as many groups more, of which each is passed where it is counted and lies in the
-- bytes. That it does is known only when the list has ended, so that it is shown first that positions only grow. Assumes nothing.
use Rattle.std.specs.Prelude.{Some, None, Option, ℕ}
use mathlib.Core.Bool.{true, false}
use mathlib.Core.List.{List}
use mathlib.Core.Option.{some}
use mathlib.Core.Path.{◌≡◌, refl, sym, ap}
use Prim.Native.Nat.{ℕ, zero, suc, ◌+◌, ◌*◌, ◌≤◌, ◌<◌}
use native.Mathlib.Omega.{arith}
use borrow.Author.Tests.{eqb-true, eqb-false}
use lib.Dec.{eqb, leb}
use lib.ListN.{length}
use Rattle.bits.specs.Ahead.{behind, ahead_at}
use Rattle.bits.specs.Bits.{value_of}
use Rattle.bits.specs.Take.{field_bits, taken_at, skip_at}
use Rattle.bits.proofs.Fields.{taken, skipped}
use Rattle.bits.proofs.Sight.{Ahead, sighted}
use Rattle.format.specs.Fields.{N_ITER}
use Rattle.format.specs.Packets.{Items, ◌⧺◌, times}
use Rattle.format.specs.Packets.Items.{end, send_times}
use Rattle.format.specs.Rules.{next}
use Rattle.hops.specs.declared.Hop.{Hop}
use Rattle.lists.specs.Lists.{if_skipped, if_taken, if_seen, hop_seen, group_at, others_at, behind_first, list_at, packet_list, apart_at}
use Rattle.passing.proofs.Passing.{Passed, passed_so, passed_then, passed_one}
use Rattle.passing.proofs.Passing.Passed.{stay}
use Rattle.counted.proofs.Groups.{Windowed}
use Rattle.counted.proofs.Tests.{cond_true, cond_false}
use Rattle.bits.specs.declared.Cursor.{Cursor}

-- from the items t at the bit x all is passed to the bit e: with v values before, they are so many in all
pub record Through (s : List ℕ) (t : Items) (x e v total : ℕ) : Type 0 where
  pub passed : ℕ
  pub counts : total ≡ v + passed
  pub body : Passed s t x passed end e

-- other fields before them
pub through_then : {s : List ℕ} {t u : Items} {x y e v m total : ℕ} → Passed s t x m u y → Through s u y e (v + m) total → Through s t x e v total
through_then {m = m} p i = record { passed = m + i.passed; counts = omega (arith, i.counts); body = passed_then p i.body }

-- wherever such a group is counted and lies in the bytes, it is passed, whatever follows
abbrev pub Grouped : List ℕ → (ℕ → Hop) → Items → Type 0
Grouped s g t = (x : ℕ) → 0 < (g x).bits → x + (g x).bits ≤ 8 * length s → (r : Items) → Passed s (t ⧺ r) x (g x).values r (x + (g x).bits)

-- by the window at its first bit
pub by_window : (s : List ℕ) (n least : ℕ) (f : ℕ → Hop) (t : Items) → Windowed s f t → Grouped s (group_at s n least f) t
unfolding group_at
by_window s n least f t p x = by (ahead_at s n least x) refl
  where
    by : (l : Option (ℕ × Cursor)) → ahead_at s n least x ≡ l → 0 < (hop_seen l f).bits → x + (hop_seen l f).bits ≤ 8 * length s → (r : Items)
        → Passed s (t ⧺ r) x (hop_seen l f).values r (x + (hop_seen l f).bits)
    by (Some (w, c)) e h room r = p x w (sighted s n least x w c e).ahead h room r
    by None e h room r = absurd (omega arith)

-- ---- the groups behind N_ITER

module _ (g : ℕ → Hop) (e : ℕ) where
  -- a group of no bits is none
  others_some : (k x v : ℕ) → 0 < others_at g e (suc k) x v → eqb (g x).bits 0 ≡ false
  unfolding others_at
  others_some k x v h = cond_false (eqb (g x).bits 0) _ h

  others_grow : (k x v : ℕ) → 0 < others_at g e k x v → x ≤ e
  unfolding others_at
  others_grow zero x v h = omega (arith, eqb-true x e (cond_true (eqb x e) v h))
  others_grow (suc k) x v h =
      let b : eqb (g x).bits 0 ≡ false = others_some k x v h in
      let i = others_grow k (x + (g x).bits) (v + (g x).values) (rw b at h) in
      omega arith

module _ (s : List ℕ) (g : ℕ → Hop) (t : Items) (p : Grouped s g t) (e : ℕ) (room : e ≤ 8 * length s) where
  pub others_through : (k x v : ℕ) → 0 < others_at g e k x v → Through s (times k t end) x e v (others_at g e k x v)
  unfolding others_at times
  others_through zero x v h =
      let b : eqb x e ≡ true = cond_true (eqb x e) v h in
      rw b (record { passed = 0; counts = omega arith; body = passed_so stay refl (eqb-true x e b) })
  others_through (suc k) x v h =
      let b : eqb (g x).bits 0 ≡ false = others_some g e k x v h in
      let n = eqb-false (g x).bits 0 b in
      let more : 0 < others_at g e k (x + (g x).bits) (v + (g x).values) = rw b at h in
      let inside = others_grow g e k (x + (g x).bits) (v + (g x).values) more in
      rw b (through_then (p x (omega arith) (omega arith) (times k t end)) (others_through k (x + (g x).bits) (v + (g x).values) more))

  -- N_ITER at the bit y, and they
  iter_through : {k y v : ℕ} → k ≡ value_of (field_bits s 5 y) → 0 < others_at g e k (y + 5) (v + 1)
      → Through s (send_times N_ITER t end) y e v (others_at g e k (y + 5) (v + 1))
  unfolding next
  iter_through {k} {y} {v} ek h =
      through_then (passed_one tt tt (ap (λ (j : ℕ). some (times j t end)) (sym ek))) (others_through k (y + 5) (v + 1) h)

-- ---- a list in one window with its N_ITER

-- a group and N_ITER lie in a window, whatever it holds
abbrev pub Narrow : (ℕ → Hop) → Type 0
Narrow f = (w : ℕ) → (f w).bits ≤ 52

module _ (s : List ℕ) (f : ℕ → Hop) (t : Items) (p : Windowed s f t) (narrow : Narrow f) (n least e : ℕ) (room : e ≤ 8 * length s) (v x : ℕ) where
  abbrev g : ℕ → Hop
  g = group_at s n least f

  first_through : {w : ℕ} → Ahead s x w → 0 < behind_first g e v x (f w) (behind w (f w).bits 5)
      → Through s (t ⧺ send_times N_ITER t end) x e v (behind_first g e v x (f w) (behind w (f w).bits 5))
  first_through {w} a h =
      let b = (f w).bits in
      let k = behind w b 5 in
      let z : eqb b 0 ≡ false = cond_false (eqb b 0) _ h in
      let wide = eqb-false b 0 z in
      let l = narrow w in
      let more : 0 < others_at g e k (x + b + 5) (v + (f w).values + 1) = rw z at h in
      let inside = others_grow g e k (x + b + 5) (v + (f w).values + 1) more in
      let front = p x w a (omega arith) (omega arith) (send_times N_ITER t end) in
      let iter = iter_through s g t (by_window s n least f t p) e room (a.part b 5 (omega arith) (omega arith)) more in
      rw z (through_then front iter)

  pub list_through : 0 < list_at s n least f e v x → Through s (t ⧺ send_times N_ITER t end) x e v (list_at s n least f e v x)
  unfolding list_at
  list_through = by (ahead_at s n (least + 5) x) refl
    where
      by : (l : Option (ℕ × Cursor)) → ahead_at s n (least + 5) x ≡ l → 0 < if_seen l (λ w. behind_first g e v x (f w) (behind w (f w).bits 5))
          → Through s (t ⧺ send_times N_ITER t end) x e v (if_seen l (λ w. behind_first g e v x (f w) (behind w (f w).bits 5)))
      by (Some (w, c)) q h = first_through (sighted s n (least + 5) x w c q).ahead h
      by None q h = absurd (omega arith)

-- ---- a list whose N_ITER is taken by itself

module _ (s : List ℕ) (g : ℕ → Hop) (t : Items) (p : Grouped s g t) (n e : ℕ) (room : e ≤ 8 * length s) (v x : ℕ) where
  pub apart_through : 0 < apart_at g s n e v x → Through s (t ⧺ send_times N_ITER t end) x e v (apart_at g s n e v x)
  unfolding apart_at
  apart_through h =
      let b = (g x).bits in
      let z : eqb b 0 ≡ false = cond_false (eqb b 0) _ h in
      rw z (by (eqb-false b 0 z) (taken_at s n 5 (x + b)) refl (rw z at h))
    where
      by : ((g x).bits ≡ 0 → ⊥) → (l : Option (ℕ × Cursor)) → taken_at s n 5 (x + (g x).bits) ≡ l → 0 < if_taken l (λ k y. others_at g e k y (v + (g x).values + 1))
          → Through s (t ⧺ send_times N_ITER t end) x e v (if_taken l (λ k y. others_at g e k y (v + (g x).values + 1)))
      by wide (Some (k, c)) q h =
          let i = taken s n 5 (x + (g x).bits) k c q in
          let more : 0 < others_at g e k (x + (g x).bits + 5) (v + (g x).values + 1) = rw i.past at h in
          let inside = others_grow g e k (x + (g x).bits + 5) (v + (g x).values + 1) more in
          let front = p x (omega arith) (omega arith) (send_times N_ITER t end) in
          rw i.past (through_then front (iter_through s g t p e room i.value more))
      by wide None q h = absurd (omega arith)

-- ---- so many bits behind a packet's beginning

module _ {s : List ℕ} {t : Items} {e v : ℕ} (n head : ℕ) (list : ℕ → ℕ) (x : ℕ)
    (i : 0 < list (x + head) → Through s t (x + head) e v (list (x + head))) where
  pub list_behind : 0 < packet_list n head list x → Through s t (x + head) e v (packet_list n head list x)
  list_behind h =
      let z : leb n 830 ≡ true = cond_true (leb n 830) _ h in
      rw z (by (skip_at n head x) refl (rw z at h))
    where
      by : (k : Option Cursor) → skip_at n head x ≡ k → 0 < if_skipped k list → Through s t (x + head) e v (if_skipped k list)
      by (Some c) q m = let there = (skipped n head x c q).past in rw there (i (rw there at m))
      by None q m = absurd (omega arith)
