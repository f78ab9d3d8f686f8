-- The groups of ETCS-27, each with a list of its own, of which each NC_DIFF is tested. Assumes nothing.
use Rattle.std.specs.Prelude.{Some, None, Option, ℕ}
use mathlib.Core.Bool.{true, ◌&&◌}
use mathlib.Core.List.{List}
use mathlib.Core.Path.{◌≡◌, refl, sym, ◌∙◌}
use Prim.Native.Nat.{ℕ, zero, suc, ◌+◌, ◌*◌, ◌≤◌, ◌<◌}
use native.Mathlib.Omega.{arith}
use borrow.Author.Tests.{leb-true}
use lib.Dec.{leb}
use lib.ListN.{length}
use Rattle.bits.specs.Ahead.{behind, ahead_at}
use Rattle.bits.specs.Bits.{value_of}
use Rattle.bits.specs.Take.{field_bits, taken_at}
use Rattle.bits.proofs.Fields.{taken}
use Rattle.bits.proofs.Sight.{Ahead, sighted}
use Rattle.format.specs.Fields.{N_ITER, NC_DIFF, V_DIFF, D_STATIC, V_STATIC, Q_FRONT}
use Rattle.format.specs.Packets.{Items, ◌▸◌, ◌⧺◌}
use Rattle.format.specs.Packets.Items.{end, send_times}
use Rattle.format.specs.Rules.{next}
use Rattle.hops.specs.Hops.{hop}
use Rattle.hops.specs.declared.Hop.{Hop}
use Rattle.lists.specs.Lists.{hop_seen}
use Rattle.passing.proofs.Passing.{Passed, passed_so, passed_then, passed_one, ruled_times, free_run}
use Rattle.wide_lists.specs.WideLists.{where_taken, differing, speed_with, speed_at}
use Rattle.counted.proofs.Tests.{both_true, hop_true}
use Rattle.bits.specs.declared.Cursor.{Cursor}

module _ (s : List ℕ) (n : ℕ) where
  -- the first of them, and the others 11 bits behind it
  differing_first : (k x : ℕ) → differing s n (suc k) x ≡ true → (value_of (field_bits s 4 x) ≤ 2) × (differing s n k (x + 11) ≡ true)
  unfolding differing
  differing_first k x = by (taken_at s n 4 x) refl
    where
      by : (t : Option (ℕ × Cursor)) → taken_at s n 4 x ≡ t → where_taken t (λ v y. leb v 2 && differing s n k (y + 7)) ≡ true
          → (value_of (field_bits s 4 x) ≤ 2) × (differing s n k (x + 11) ≡ true)
      by (Some (v, c)) q d =
          let f = taken s n 4 x v c q in
          let both = both_true (leb v 2) (differing s n k (c.at + 7)) d in
          let there : c.at + 7 ≡ x + 11 = omega (arith, f.past) in
          (rw f.value at (leb-true v 2 both.0), rw there at both.1)
      by None q d = let z : ◌≡◌ {A = ℕ} 0 1 = cc in absurd (omega arith)

  -- each of so many NC_DIFF is at most 2
  differing_kept : (k x : ℕ) → differing s n k x ≡ true → (j : ℕ) → j < k → value_of (field_bits s 4 (x + j * 11)) ≤ 2
  differing_kept zero x e j h = absurd (omega arith)
  differing_kept (suc k) x e zero h = let z : x + 0 * 11 ≡ x = omega arith in rw z (differing_first k x e).0
  differing_kept (suc k) x e (suc i) h =
      let z : x + suc i * 11 ≡ x + 11 + i * 11 = omega arith in
      rw z (differing_kept k (x + 11) (differing_first k x e).1 i (omega arith))

abbrev difference : Items
difference = NC_DIFF ▸ V_DIFF ▸ end

abbrev pub speed : Items
speed = D_STATIC ▸ V_STATIC ▸ Q_FRONT ▸ send_times N_ITER difference end

module _ {s : List ℕ} {x w : ℕ} (a : Ahead s x w) (k : ℕ) (ek : behind w 23 5 ≡ k) (room : x + (28 + 11 * k) ≤ 8 * length s)
    (tested : (j : ℕ) → j < k → value_of (field_bits s 4 (x + 28 + j * 11)) ≤ 2) where
  speed_kept : (r : Items) → Passed s (speed ⧺ r) x (4 + 2 * k) r (x + (28 + 11 * k))
  unfolding next ◌⧺◌
  speed_kept r =
      let v = value_of (field_bits s 5 (x + 23)) in
      let ev : v ≡ k = sym (a.part 23 5 (omega arith) (omega arith)) ∙ ek in
      let front = free_run s (D_STATIC ▸ V_STATIC ▸ Q_FRONT ▸ end) (send_times N_ITER difference r) x (refl, (refl, (refl, tt))) in
      let inner = ruled_times s v difference r (x + 23 + 5) (λ j h. ((omega arith, each j (omega arith)), (tt, tt))) in
      passed_so (passed_then front (passed_then (passed_one tt tt refl) inner)) (omega arith) (omega arith)
    where
      each : (j : ℕ) → j < k → value_of (field_bits s 4 (x + 23 + 5 + j * 11)) ≤ 2
      each j h = let y : x + 23 + 5 + j * 11 ≡ x + 28 + j * 11 = omega arith in rw y (tested j h)

module _ (s : List ℕ) (n x : ℕ) where
  -- such a group is passed where it is counted and lies in the bytes
  abbrev Passes : Hop → Type 0
  Passes h = 0 < h.bits → x + h.bits ≤ 8 * length s → (r : Items) → Passed s (speed ⧺ r) x h.values r (x + h.bits)

  with_passed : {w : ℕ} → Ahead s x w → Passes (speed_with s n (behind w 23 5) (x + 28))
  unfolding speed_with
  with_passed {w} a some room r =
      let k = behind w 23 5 in
      let e : differing s n k (x + 28) ≡ true = hop_true (differing s n k (x + 28)) (hop (28 + 11 * k) (4 + 2 * k)) some in
      rw e (speed_kept a k refl (rw e at room) (differing_kept s n k (x + 28) e) r)

  pub speed_passed : Passes (speed_at s n x)
  unfolding speed_at
  speed_passed = by (ahead_at s n 28 x) refl
    where
      by : (t : Option (ℕ × Cursor)) → ahead_at s n 28 x ≡ t → Passes (hop_seen t (λ w. speed_with s n (behind w 23 5) (x + 28)))
      by (Some (w, c)) e some room r = with_passed (sighted s n 28 x w c e).ahead some room r
      by None e some room r = absurd (omega arith)
