-- A list whose N_ITER is taken by itself, and its groups, by the tests that the code makes. Assumes nothing.
use Rattle.std.specs.Prelude.{Some, None, ℕ}
use mathlib.Core.Path.{◌≡◌, refl, sym, ap, ◌∙◌}
use mathlib.Core.Bool.{true, false}
use mathlib.Core.List.{List}
use Prim.Native.Nat.{ℕ, suc, ◌+◌, ◌*◌, ◌≤◌, ◌<◌}
use native.Mathlib.Omega.{arith}
use borrow.Author.Tests.{le-leb, lt-leb}
use Rattle.bits.specs.Ahead.{behind, ahead_at}
use Rattle.bits.specs.Take.{taken_at}
use Rattle.bits.proofs.Sight.{sighted}
use Rattle.bits.specs.declared.Cursor.{Cursor}
use Rattle.hops.specs.Hops.{kept, hop, position_in}
use Rattle.hops.proofs.Kept.{is_kept}
use Rattle.hops.specs.declared.Hop.{Hop}
use Rattle.lists.specs.Lists.{apart_at, packet_list}
use Rattle.wide_lists.specs.WideLists.{differing, speed_with, speed_at, position_at, speeds_at, positions_at}

-- ---- NC_DIFF by NC_DIFF

module _ (s : List ℕ) (n : ℕ) where
  differ_one : (k x v : ℕ) (c : Cursor) → taken_at s n 4 x ≡ Some (v, c) → v ≤ 2 → differing s n (suc k) x ≡ differing s n k (c.at + 7)
  unfolding differing
  differ_one k x v c e h = rw (e, le-leb v 2 h)

  differ_over : (k x v : ℕ) (c : Cursor) → taken_at s n 4 x ≡ Some (v, c) → 2 < v → differing s n (suc k) x ≡ false
  unfolding differing
  differ_over k x v c e h = rw (e, lt-leb v 2 h)

  differ_past : (k x : ℕ) → taken_at s n 4 x ≡ None → differing s n (suc k) x ≡ false
  unfolding differing
  differ_past k x e = rw e

  module _ (left k x : ℕ) (l : left ≡ suc k) where
    pub differ_on : (v : ℕ) (c : Cursor) → taken_at s n 4 x ≡ Some (v, c) → v ≤ 2 → differing s n left x ≡ differing s n k (c.at + 7)
    differ_on v c e h = ap (λ (j : ℕ). differing s n j x) l ∙ differ_one k x v c e h

    pub differ_broken : (v : ℕ) (c : Cursor) → taken_at s n 4 x ≡ Some (v, c) → 2 < v → differing s n left x ≡ false
    differ_broken v c e h = ap (λ (j : ℕ). differing s n j x) l ∙ differ_over k x v c e h

    pub differ_short : taken_at s n 4 x ≡ None → differing s n left x ≡ false
    differ_short e = ap (λ (j : ℕ). differing s n j x) l ∙ differ_past k x e

  pub differ_end : (left x : ℕ) → left ≡ 0 → differing s n left x ≡ true
  unfolding differing
  differ_end left x l = rw l

-- ---- a group of ETCS-27

module _ (s : List ℕ) (n x : ℕ) where
  pub speed_short : ahead_at s n 28 x ≡ None → None ≡ kept (speed_at s n x)
  unfolding speed_at
  speed_short e = rw e

  module _ (w : ℕ) (c : Cursor) (seen : ahead_at s n 28 x ≡ Some (w, c)) (k : ℕ) (ek : k ≡ behind w 23 5) where
    there : x + 28 ≡ c.at
    there = sym (sighted s n 28 x w c seen).past

    pub speed_broken : differing s n k c.at ≡ false → None ≡ kept (speed_at s n x)
    unfolding speed_at speed_with
    speed_broken e = rw (seen, ← ek, there, e)

    speed_is : differing s n k c.at ≡ true → hop (28 + 11 * k) (4 + 2 * k) ≡ speed_at s n x
    unfolding speed_at speed_with
    speed_is e = rw (seen, ← ek, there, e)

    pub speed_kept : differing s n k c.at ≡ true → Some (hop (28 + 11 * k) (4 + 2 * k)) ≡ kept (speed_at s n x)
    speed_kept e = is_kept (speed_is e) (omega arith)

-- ---- a group of ETCS-79

pub place_kept : (h : Hop) (w : ℕ) → h ≡ position_in w → Some h ≡ kept (position_in w)
unfolding position_in
place_kept h w e = rw e (is_kept {h = position_in w} refl (omega arith))

-- ---- the packets

module _ (s : List ℕ) (n e x : ℕ) where
  pub speeds_is : packet_list n 25 (apart_at (speed_at s n) s n e 4) x ≡ speeds_at s n e x
  unfolding speeds_at
  speeds_is = refl

  pub positions_is : packet_list n 25 (apart_at (position_at s n) s n e 4) x ≡ positions_at s n e x
  unfolding positions_at
  positions_is = refl
