-- ETCS-42 and ETCS-131, whose NID_RADIO is looked at in two halves. Assumes nothing.
use Rattle.std.specs.Prelude.{Some, None, Option, ℕ}
use mathlib.Core.Bool.{true, false, cond}
use mathlib.Core.List.{List}
use mathlib.Core.Path.{◌≡◌, refl}
use Prim.Native.Nat.{ℕ, ◌+◌, ◌*◌, ◌^◌, ◌<◌}
use native.Mathlib.Omega.{arith}
use borrow.Author.Tests.{eqb-true}
use lib.Dec.{eqb}
use Rattle.bits.specs.Ahead.{behind, ahead_at}
use Rattle.bits.specs.Bits.{value_of}
use Rattle.bits.specs.Take.{field_bits, skip_at}
use Rattle.bits.proofs.Fields.{skipped}
use Rattle.bits.proofs.Sight.{IsAhead, sighted, fields_joined}
use Rattle.format.specs.Fields.{Q_RBC, NID_C, NID_RBC, NID_RADIO, Q_SLEEPSESSION, D_RBCTR}
use Rattle.format.specs.Packets.{Items, ◌▸◌, ◌⧺◌}
use Rattle.format.specs.Packets.Items.{end}
use Rattle.format.specs.Rules.{radio_from}
use Rattle.lists.specs.Lists.{if_skipped, if_taken, if_seen}
use Rattle.passing.proofs.Passing.{passed_so, ruled_run}
use Rattle.passing.proofs.Sorts.{front_is}
use Rattle.bodies.specs.Bodies.{radio_at}
use Rattle.counted.proofs.Listed.{Through}
use Rattle.counted.proofs.Tests.{cond_true}
use Rattle.bits.specs.declared.Cursor.{Cursor}

-- a number of the wanted length that keeps its rule, so many bits behind x
record Dialled (s : List ℕ) (y v total : ℕ) : Type 0 where
  digits : radio_from 16 false (value_of (field_bits s 64 y)) ≡ true
  counts : total ≡ v

module _ (s : List ℕ) (n v : ℕ) where
  abbrev low : ℕ → ℕ → ℕ
  low a b = cond (radio_from 16 false (behind a 0 32 * 2 ^ 32 + behind b 0 32)) v 0

  -- both halves
  halves : {y a z b u : ℕ} → IsAhead s n 32 y a z → IsAhead s n 32 z b u → 0 < low a b → Dialled s y v (low a b)
  halves {y} {a} {z} {b} i j h =
      let past = i.past in
      let inside = j.within in
      let room = j.room in
      let e = cond_true (radio_from 16 false (behind a 0 32 * 2 ^ 32 + behind b 0 32)) v h in
      let first = front_is i.ahead 32 (omega arith) (omega arith) in
      let second : value_of (field_bits s 32 (y + 32)) ≡ behind b 0 32 = rw (← past) (front_is j.ahead 32 (omega arith) (omega arith)) in
      let whole : behind a 0 32 * 2 ^ 32 + behind b 0 32 ≡ value_of (field_bits s 64 y) =
      rw (first, second) at (fields_joined s y 32 32 (omega arith)) in
      record { digits = rw whole at e; counts = rw e }

  second_half : {y a z : ℕ} → IsAhead s n 32 y a z → (t : Option (ℕ × Cursor)) → ahead_at s n 32 z ≡ t → 0 < if_seen t (low a) → Dialled s y v (if_seen t (low a))
  second_half {z = z} i (Some (b, c)) q h = halves i (sighted s n 32 z b c q) h
  second_half i None q h = absurd (omega arith)

  abbrev high : ℕ → ℕ → ℕ
  high a z = if_seen (ahead_at s n 32 z) (low a)

  first_half : (y : ℕ) (t : Option (ℕ × Cursor)) → ahead_at s n 32 y ≡ t → 0 < if_taken t high → Dialled s y v (if_taken t high)
  first_half y (Some (a, c)) q h = second_half (sighted s n 32 y a c q) (ahead_at s n 32 c.at) refl h
  first_half y None q h = absurd (omega arith)

  skipped_to : (x place : ℕ) (t : Option Cursor) → skip_at n place x ≡ t → 0 < if_skipped t (λ y. if_taken (ahead_at s n 32 y) high)
      → Dialled s (x + place) v (if_skipped t (λ y. if_taken (ahead_at s n 32 y) high))
  skipped_to x place (Some c) q h =
      let there = (skipped n place x c q).past in
      rw there (first_half (x + place) (ahead_at s n 32 (x + place)) refl (rw there at h))
  skipped_to x place None q h = absurd (omega arith)

  radio_long : (x place long wanted : ℕ) → 0 < radio_at s n x place long wanted v → eqb long wanted ≡ true
  unfolding radio_at
  radio_long x place long wanted h = cond_true (eqb long wanted) _ h

  dialled : (x place long wanted : ℕ) → 0 < radio_at s n x place long wanted v → Dialled s (x + place) v (radio_at s n x place long wanted v)
  unfolding radio_at
  dialled x place long wanted h =
      let e = radio_long x place long wanted h in
      rw e (skipped_to x place (skip_at n place x) refl (rw e at h))

-- ---- ETCS-42

abbrev pub called : Items
called = NID_C ▸ NID_RBC ▸ NID_RADIO ▸ Q_SLEEPSESSION ▸ end

module _ (s : List ℕ) (n x long : ℕ) where
  pub session_through : 0 < radio_at s n x 48 long 113 8 → Through s (Q_RBC ▸ called) (x + 23) (x + long) 3 (radio_at s n x 48 long 113 8)
  unfolding ◌⧺◌
  session_through h =
      let d = dialled s n 8 x 48 long 113 h in
      let l = eqb-true long 113 (radio_long s n 8 x 48 long 113 h) in
      let there : x + 23 + 1 + 10 + 14 ≡ x + 48 = omega arith in
      let p = ruled_run s (Q_RBC ▸ called) end (x + 23) (tt, (tt, (tt, (rw there d.digits, (tt, tt))))) in
      record { passed = 5; counts = d.counts; body = passed_so p refl (omega arith) }

  -- ---- ETCS-131

  pub handover_through : 0 < radio_at s n x 64 long 129 9 → Through s (D_RBCTR ▸ called) (x + 25) (x + long) 4 (radio_at s n x 64 long 129 9)
  unfolding ◌⧺◌
  handover_through h =
      let d = dialled s n 9 x 64 long 129 h in
      let l = eqb-true long 129 (radio_long s n 9 x 64 long 129 h) in
      let there : x + 25 + 15 + 10 + 14 ≡ x + 64 = omega arith in
      let p = ruled_run s (D_RBCTR ▸ called) end (x + 25) (tt, (tt, (tt, (rw there d.digits, (tt, tt))))) in
      record { passed = 5; counts = d.counts; body = passed_so p refl (omega arith) }
