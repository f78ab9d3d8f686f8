-- What packets hold that are no list to their end, as far as it is counted. Assumes nothing.
use Rattle.std.specs.Prelude.{Some, None, Option, ℕ}
use mathlib.Core.Bool.{Bool, true, false, cond}
use mathlib.Core.List.{List}
use mathlib.Core.Option.{some}
use mathlib.Core.Path.{◌≡◌, refl, sym, ap, ◌∙◌}
use Prim.Native.Nat.{ℕ, ◌+◌, ◌*◌, ◌≤◌, ◌<◌}
use native.Mathlib.Omega.{arith}
use borrow.Author.Tests.{eqb-true, eqb-false}
use lib.Dec.{eqb}
use lib.ListN.{length}
use Rattle.bits.specs.Ahead.{behind}
use Rattle.bits.specs.Bits.{value_of}
use Rattle.bits.specs.Take.{field_bits, taken_at, skip_at}
use Rattle.bits.proofs.Fields.{taken, skipped}
use Rattle.bits.proofs.Sight.{Ahead}
use Rattle.format.specs.Fields.{N_ITER, D_GRADIENT, Q_GDIR, G_A, D_LEVELTR, Q_TRACKINIT, D_TRACKINIT, D_SIGNAL, L_TSRarea, D_TSR, L_TSR, Q_FRONT, V_TSR, Q_STOP}
use Rattle.format.specs.Packets.{Items, ◌▸◌, ◌⧺◌, times}
use Rattle.format.specs.Packets.Items.{end, send_either, send_times}
use Rattle.format.specs.Rules.{next}
use Rattle.lists.specs.Lists.{if_skipped, if_taken, levels_at, conditions_at, circuits_at}
use Rattle.passing.proofs.Passing.{Passed, passed_so, passed_grows, passed_then, passed_one, passed_first, passed_second, ruled_run, free_run, free_times, Free}
use Rattle.laws.proofs.Tile.{widths}
use Rattle.laws.proofs.Whole.{field_count}
use Rattle.bodies.specs.Bodies.{sized_by, track_at, restricted_at, stopping_at}
use Rattle.counted.proofs.EachList.{listed, levels_through, conditions_through, circuits_through}
use Rattle.counted.proofs.Groups.{condition, circuit}
use Rattle.counted.proofs.Levels.{transition}
use Rattle.counted.proofs.Listed.{Through, through_then}
use Rattle.counted.proofs.Tests.{cond_true, some_equal}
use Rattle.bits.specs.declared.Cursor.{Cursor}

-- ---- as long as it is to be

pub sized_long : (long wanted v : ℕ) → 0 < sized_by long wanted v → long ≡ wanted
unfolding sized_by
sized_long long wanted v h = some_equal long wanted v h

-- all that is passed then
pub sized_through : {s : List ℕ} {t : Items} {x e v m : ℕ} (long wanted total : ℕ) → Passed s t x m end e → total ≡ v + m
    → 0 < sized_by long wanted total → Through s t x e v (sized_by long wanted total)
unfolding sized_by
sized_through {m = m} long wanted total p c h =
    let e = cond_true (eqb long wanted) total h in rw e (record { passed = m; counts = c; body = p })

-- fields in a row that may hold anything
pub sized_free : (s : List ℕ) (t : Items) {x v : ℕ} (long wanted total : ℕ) → Free t → {e : ℕ} → (long ≡ wanted → x + widths t ≡ e)
    → total ≡ v + field_count t → 0 < sized_by long wanted total → Through s (t ⧺ end) x e v (sized_by long wanted total)
sized_free s t {x} long wanted total f e c h =
    sized_through long wanted total (passed_so (free_run s t end x f) refl (e (sized_long long wanted total h))) c h

-- ---- a list of groups of which no rule reads anything

module _ (s : List ℕ) (g : Items) (f : Free g) where
  -- N_ITER stands behind the first
  pub free_listed : {x : ℕ} (k : ℕ) → k ≡ value_of (field_bits s 5 (x + widths g))
      → Passed s (listed g) x (field_count g + 1 + k * field_count g) end (x + widths g + 5 + k * widths g)
  unfolding next
  free_listed {x} k ek =
      let iter = passed_one tt tt (ap (λ (j : ℕ). some (times j g end)) (sym ek)) in
      let groups = free_times s k g end (x + widths g + 5) f in
      passed_so (passed_then (passed_then (free_run s g (send_times N_ITER g end) x f) iter) groups) refl refl

-- ---- ETCS-21

abbrev pub slope : Items
slope = D_GRADIENT ▸ Q_GDIR ▸ G_A ▸ end

pub gradients_through : {s : List ℕ} {x w : ℕ} → Ahead s x w → (long : ℕ) → x + long ≤ 8 * length s
    → 0 < sized_by long (54 + 24 * behind w 49 5) (8 + 3 * behind w 49 5)
    → Through s (listed slope) (x + 25) (x + long) 4 (sized_by long (54 + 24 * behind w 49 5) (8 + 3 * behind w 49 5))
gradients_through {s} {x} {w} a long room h =
    let k = behind w 49 5 in
    let l : long ≡ 54 + 24 * k = sized_long long (54 + 24 * k) (8 + 3 * k) h in
    let there : x + 25 + 24 ≡ x + 49 = omega arith in
    let ek : k ≡ value_of (field_bits s 5 (x + 25 + 24)) = rw there (a.part 49 5 (omega arith) (omega arith)) in
    let p = free_listed s slope (refl, (refl, (refl, tt))) k ek in
    sized_through long (54 + 24 * k) (8 + 3 * k) (passed_so p refl (omega arith)) (omega arith) h

-- ---- ETCS-41: D_LEVELTR stands before its list

pub levels_body : (s : List ℕ) (n e : ℕ) → e ≤ 8 * length s → (x : ℕ) → 0 < levels_at s n e x
    → Through s (D_LEVELTR ▸ listed transition) (x + 25) e 4 (levels_at s n e x)
unfolding next
levels_body s n e room x h =
    let there : x + 25 + 15 ≡ x + 40 = omega arith in
    through_then (passed_one tt tt refl) (rw there (levels_through s n e room x h))

-- ---- ETCS-68: Q_TRACKINIT, and D_TRACKINIT or a list

abbrev pub tracks : Items
tracks = send_either Q_TRACKINIT (D_TRACKINIT ▸ end) (listed condition)

module _ {s : List ℕ} {x w : ℕ} (a : Ahead s x w) (n long : ℕ) (room : x + long ≤ 8 * length s) where
  initial : x + 26 ≤ 8 * length s → value_of (field_bits s 1 (x + 25)) ≡ behind w 25 1
  initial h = sym (a.part 25 1 (omega arith) (omega arith))

  track_initial : behind w 25 1 ≡ 1 → 0 < sized_by long 41 6 → Through s tracks (x + 25) (x + long) 4 (sized_by long 41 6)
  unfolding next
  track_initial e h =
      let l = sized_long long 41 6 h in
      let one = initial (omega arith) ∙ e in
      let p = passed_then (passed_first {c = Q_TRACKINIT} {b = listed condition} tt one) (passed_one tt tt refl) in
      sized_through long 41 6 (passed_so p refl (omega arith)) refl h

  track_list : (behind w 25 1 ≡ 1 → ⊥) → 0 < conditions_at s n (x + long) x
      → Through s tracks (x + 25) (x + long) 4 (conditions_at s n (x + long) x)
  track_list e h =
      let i = conditions_through s n (x + long) room x h in
      let g = passed_grows i.body in
      let there : x + 25 + 1 ≡ x + 26 = omega arith in
      let second : value_of (field_bits s 1 (x + 25)) ≡ 1 → ⊥ = λ o. e (sym (initial (omega arith)) ∙ o) in
      through_then (passed_second {c = Q_TRACKINIT} {a = D_TRACKINIT ▸ end} tt second) (rw there i)

  pub track_through : 0 < track_at s n (x + long) x long (behind w 25 1)
      → Through s tracks (x + 25) (x + long) 4 (track_at s n (x + long) x long (behind w 25 1))
  unfolding track_at
  track_through = by (eqb (behind w 25 1) 1) refl
    where
      by : (b : Bool) → eqb (behind w 25 1) 1 ≡ b → 0 < cond b (sized_by long 41 6) (conditions_at s n (x + long) x)
          → Through s tracks (x + 25) (x + long) 4 (cond b (sized_by long 41 6) (conditions_at s n (x + long) x))
      by true e h = track_initial (eqb-true (behind w 25 1) 1 e) h
      by false e h = track_list (eqb-false (behind w 25 1) 1 e) h

-- ---- CTCS-1: D_SIGNAL stands before its list

pub circuits_body : (s : List ℕ) (n e : ℕ) → e ≤ 8 * length s → (x : ℕ) → 0 < circuits_at s n e x
    → Through s (D_SIGNAL ▸ listed circuit) (x + 49) e 7 (circuits_at s n e x)
unfolding next
circuits_body s n e room x h =
    let there : x + 49 + 15 ≡ x + 64 = omega arith in
    through_then (passed_one tt tt refl) (rw there (circuits_through s n e room x h))

-- ---- CTCS-2: L_TSRarea stands before its list

abbrev pub restriction : Items
restriction = D_TSR ▸ L_TSR ▸ Q_FRONT ▸ V_TSR ▸ end

module _ (s : List ℕ) (n x long : ℕ) where
  restricted_by : (k : ℕ) → k ≡ value_of (field_bits s 5 (x + 102)) → 0 < sized_by long (107 + 38 * k) (13 + 4 * k)
      → Through s (L_TSRarea ▸ listed restriction) (x + 49) (x + long) 7 (sized_by long (107 + 38 * k) (13 + 4 * k))
  unfolding next
  restricted_by k ek h =
      let l = sized_long long (107 + 38 * k) (13 + 4 * k) h in
      let there : x + 102 ≡ x + 49 + 15 + 38 = omega arith in
      let p = passed_then (passed_one {t = L_TSRarea ▸ listed restriction} {x = x + 49} tt tt refl)
      (free_listed s restriction (refl, (refl, (refl, (refl, tt)))) k (rw there at ek)) in
      sized_through long (107 + 38 * k) (13 + 4 * k) (passed_so p refl (omega arith)) (omega arith) h

  taken_by : (y : ℕ) → y ≡ x + 102 → (l : Option (ℕ × Cursor)) → taken_at s n 5 y ≡ l → 0 < if_taken l (λ k z. sized_by long (107 + 38 * k) (13 + 4 * k))
      → Through s (L_TSRarea ▸ listed restriction) (x + 49) (x + long) 7 (if_taken l (λ k z. sized_by long (107 + 38 * k) (13 + 4 * k)))
  taken_by y ey (Some (k, c)) q h = restricted_by k (rw (← ey) (taken s n 5 y k c q).value) h
  taken_by y ey None q h = absurd (omega arith)

  pub restricted_through : 0 < restricted_at s n x long → Through s (L_TSRarea ▸ listed restriction) (x + 49) (x + long) 7 (restricted_at s n x long)
  unfolding restricted_at
  restricted_through = by (skip_at n 102 x) refl
    where
      by : (l : Option Cursor) → skip_at n 102 x ≡ l → 0 < if_skipped l (λ y. if_taken (taken_at s n 5 y) (λ k z. sized_by long (107 + 38 * k) (13 + 4 * k)))
          → Through s (L_TSRarea ▸ listed restriction) (x + 49) (x + long) 7
          (if_skipped l (λ y. if_taken (taken_at s n 5 y) (λ k z. sized_by long (107 + 38 * k) (13 + 4 * k))))
      by (Some c) q h = taken_by c.at (skipped n 102 x c q).past (taken_at s n 5 c.at) refl h
      by None q h = absurd (omega arith)

-- ---- CTCS-5

pub stopping_through : {s : List ℕ} {x w : ℕ} → Ahead s x w → (long : ℕ) → x + long ≤ 8 * length s → 0 < stopping_at long (behind w 47 1)
    → Through s (Q_STOP ▸ end) (x + 47) (x + long) 6 (stopping_at long (behind w 47 1))
unfolding stopping_at ◌⧺◌
stopping_through {s} {x} {w} a long room h =
    let e : eqb (behind w 47 1) 0 ≡ true = cond_true (eqb (behind w 47 1) 0) (sized_by long 48 7) h in
    let some : 0 < sized_by long 48 7 = rw e at h in
    let l = sized_long long 48 7 some in
    let stop : value_of (field_bits s 1 (x + 47)) ≤ 0 =
    rw (← (a.part 47 1 (omega arith) (omega arith))) (omega (arith, eqb-true (behind w 47 1) 0 e)) in
    let p = ruled_run s (Q_STOP ▸ end) end (x + 47) ((omega arith, stop), tt) in
    rw e (sized_through long 48 7 (passed_so p refl (omega arith)) refl some)
