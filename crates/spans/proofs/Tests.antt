-- Packets by the tests that the code makes, one law for each way out. Assumes nothing.
use Rattle.std.specs.Prelude.{Some, None}
use mathlib.Core.Path.{◌≡◌, refl, ap, ◌∙◌}
use mathlib.Core.List.{List}
use Prim.Native.Nat.{ℕ, zero, suc, ◌+◌, ◌≤◌, ◌<◌}
use borrow.Author.Tests.{le-leb, lt-leb, eq-eqb, ne_eqb}
use lib.Dec.{eqb}
use Rattle.bits.specs.Ahead.{behind}
use Rattle.bits.specs.Take.{skip_at}
use Rattle.bits.specs.declared.Cursor.{Cursor}
use Rattle.hops.specs.Hops.{counted}
use Rattle.bodies.specs.Bodies.{so_many, sized_by, radio_at}
use Rattle.bodies.proofs.Tests.{sized_many, radio_many}
use Rattle.spans.specs.Spans.{or_zero, span, plain, scaled_by, user_at, national_at, kind_at, packet_at}

-- ---- a number of values that the code has

pub zero_counted : (v : ℕ) → or_zero (counted v) ≡ v
zero_counted zero = refl
zero_counted (suc v) = refl

pub zero_sized : (v : ℕ) → 1 ≤ v → (long wanted : ℕ) → or_zero (so_many v (sized_by long wanted 1)) ≡ sized_by long wanted v
zero_sized v some long wanted = ap or_zero (sized_many v some long wanted) ∙ zero_counted _

pub zero_radio : (v : ℕ) → 1 ≤ v → (s : List ℕ) (n x place long wanted : ℕ)
    → or_zero (so_many v (radio_at s n x place long wanted 1)) ≡ radio_at s n x place long wanted v
zero_radio v some s n x place long wanted = ap or_zero (radio_many v some s n x place long wanted) ∙ zero_counted _

-- ---- a scale

module _ (q v : ℕ) where
  pub scale_over : 2 < q → plain 0 ≡ scaled_by q v
  unfolding scaled_by
  scale_over h = rw (lt-leb q 2 h)

  pub scale_kept : q ≤ 2 → span v (eqb q 1) ≡ scaled_by q v
  unfolding scaled_by
  scale_kept h = rw (le-leb q 2 h)

-- ---- whole packets

module _ (s : List ℕ) (n e x long w : ℕ) (a b : ℕ) (ea : a ≡ behind w 32 2) (eb : b ≡ behind w 8 2) where
  pub inner_turned : (a ≡ b → ⊥) → plain 0 ≡ national_at s n e x long w
  unfolding national_at
  inner_turned h = rw (← ea, ← eb, ne_eqb a b h)

  module _ (same : a ≡ b) (k : ℕ) (ek : k ≡ behind w 34 13) where
    pub inner_long : (long ≡ k + 23 → ⊥) → plain 0 ≡ national_at s n e x long w
    unfolding national_at
    inner_long h = rw (← ea, ← eb, eq-eqb a b same, ← ek, ne_eqb long (k + 23) h)

    pub inner_kept : long ≡ k + 23 → user_at s n e x long w (behind w 23 9) ≡ national_at s n e x long w
    unfolding national_at
    inner_kept h = rw (← ea, ← eb, eq-eqb a b same, ← ek, eq-eqb long (k + 23) h)

module _ (s : List ℕ) (n x long w : ℕ) where
  pub packet_over : 830 < n → plain 0 ≡ packet_at s n x long w
  unfolding packet_at
  packet_over h = rw (lt-leb n 830 h)

  module _ (few : n ≤ 830) where
    pub packet_lacking : skip_at n long x ≡ None → plain 0 ≡ packet_at s n x long w
    unfolding packet_at
    packet_lacking h = rw (le-leb n 830 few, h)

    module _ {c : Cursor} (at : skip_at n long x ≡ Some c) (d : ℕ) (ed : d ≡ behind w 8 2) where
      pub packet_turned : 2 < d → plain 0 ≡ packet_at s n x long w
      unfolding packet_at
      packet_turned h = rw (le-leb n 830 few, at, ← ed, lt-leb d 2 h)

      pub packet_kind : d ≤ 2 → kind_at s n c.at x long w (behind w 0 8) ≡ packet_at s n x long w
      unfolding packet_at
      packet_kind h = rw (le-leb n 830 few, at, ← ed, le-leb d 2 h)
