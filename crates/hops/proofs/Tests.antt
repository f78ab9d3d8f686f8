-- A group by the tests that the code makes, one law for each way out. Assumes nothing.
use mathlib.Core.Path.{◌≡◌, ap, ◌∙◌}
use Prim.Native.Nat.{ℕ, ◌+◌, ◌*◌, ◌/◌, ◌≤◌, ◌<◌}
use native.Mathlib.Omega.{arith}
use borrow.Author.Tests.{le-leb, lt-leb, eq-eqb, ne_eqb}
use Rattle.bits.specs.Ahead.{behind}
use Rattle.hops.specs.Hops.{hop, none, link_in, level_in, leveled, condition_in, position_in, circuit_in}

module _ (w c d : ℕ) (ec : c ≡ behind w 15 1) (ed : d ≡ behind w (31 + 10 * c) 2) where
  reacts : d ≡ behind w (31 + 10 * behind w 15 1) 2
  reacts = ed ∙ ap (λ (x : ℕ). behind w (31 + 10 * x) 2) ec

  pub link_broken : 2 < d → none ≡ link_in w
  unfolding link_in
  link_broken h = rw (← reacts, lt-leb d 2 h)

  pub link_kept : d ≤ 2 → hop (39 + 10 * c) (6 + c) ≡ link_in w
  unfolding link_in
  link_kept h = rw (← reacts, le-leb d 2 h, ec)

module _ (most w l : ℕ) (el : l ≡ behind w 0 3) where
  module _ (one : l ≡ 1) (m : ℕ) (em : m ≡ behind w 3 8) where
    pub stm_none : m ≡ 0 → 0 ≡ level_in most w
    unfolding level_in
    stm_none h = rw (← el, ← em, eq-eqb l 1 one, lt-leb 1 m (omega arith))

    pub stm_over : 3 < m → 0 ≡ level_in most w
    unfolding level_in
    stm_over h = rw (← el, ← em, eq-eqb l 1 one, le-leb 1 m (omega arith), lt-leb m 3 h)

    pub stm_kept : 1 ≤ m → m ≤ 3 → 11 ≡ level_in most w
    unfolding level_in
    stm_kept g h = rw (← el, ← em, eq-eqb l 1 one, le-leb 1 m g, le-leb m 3 h)

  pub level_over : (l ≡ 1 → ⊥) → most < l → 0 ≡ level_in most w
  unfolding level_in
  level_over n h = rw (← el, ne_eqb l 1 n, lt-leb l most h)

  pub level_kept : (l ≡ 1 → ⊥) → l ≤ most → 3 ≡ level_in most w
  unfolding level_in
  level_kept n h = rw (← el, ne_eqb l 1 n, le-leb l most h)

module _ (b more fields : ℕ) where
  pub leveled_none : b ≡ 0 → none ≡ leveled b more fields
  unfolding leveled
  leveled_none h = rw (lt-leb 1 b (omega arith))

  pub leveled_some : (b ≡ 0 → ⊥) → hop (b + more) (fields + b / 8) ≡ leveled b more fields
  unfolding leveled
  leveled_some h = rw (le-leb 1 b (omega arith))

module _ (w m : ℕ) (em : m ≡ behind w 30 4) where
  pub condition_broken : 9 < m → none ≡ condition_in w
  unfolding condition_in
  condition_broken h = rw (← em, lt-leb m 9 h)

  pub condition_kept : m ≤ 9 → hop 34 3 ≡ condition_in w
  unfolding condition_in
  condition_kept h = rw (← em, le-leb m 9 h)

module _ (w a : ℕ) (ea : a ≡ behind w 0 4) where
  pub signal_broken : 7 < a → none ≡ circuit_in w
  unfolding circuit_in
  signal_broken h = rw (← ea, lt-leb a 7 h)

  module _ (b : ℕ) (eb : b ≡ behind w 4 5) (ka : a ≤ 7) where
    pub frequency_broken : 12 < b → none ≡ circuit_in w
    unfolding circuit_in
    frequency_broken h = rw (← ea, ← eb, le-leb a 7 ka, lt-leb b 12 h)

    pub circuit_kept : b ≤ 12 → hop 24 3 ≡ circuit_in w
    unfolding circuit_in
    circuit_kept h = rw (← ea, ← eb, le-leb a 7 ka, le-leb b 12 h)

pub position_is : (w c : ℕ) → c ≡ behind w 0 1 → hop (51 + 10 * c) (5 + c) ≡ position_in w
unfolding position_in
position_is w c e = rw e
