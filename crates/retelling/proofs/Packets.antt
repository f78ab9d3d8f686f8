-- A walk from packet to packet: with those that are left put still, all of them are. Assumes nothing.
use mathlib.Core.Bool.{cond}
use mathlib.Core.List.{List}
use mathlib.Core.Path.{◌≡◌, refl, sym, ap, ◌∙◌}
use Prim.Native.Nat.{ℕ, zero, suc, ◌+◌, ◌-◌, ◌≤◌, ◌<◌}
use native.Mathlib.Omega.{arith}
use borrow.Author.Tests.{eq-eqb, ne_eqb, lt-ltb, le-ltb, le-leb, lt-leb}
use lib.Dec.{eqb}
use lib.ListN.{length}
use Rattle.bits.proofs.Looked.{number_lt}
use Rattle.told.specs.Metres.{number_in}
use Rattle.told.specs.Decides.{packet_put, packet_end}
use Rattle.retelling.specs.Retold.{each_packet, patched_to}

-- before the packet at the bit x
pub record Walking (s : List ℕ) (n : ℕ) (base : List ℕ) (x : ℕ) (out : List ℕ) : Type 0 where
  pub left : ℕ
  pub all : each_packet n s n 50 base ≡ each_packet left s n x out
  pub far : n ≤ left + x
  pub low : x ≤ n + 8200
  pub keeps : length out ≡ length base

pub walking_first : (s : List ℕ) (n : ℕ) (base : List ℕ) → Walking s n base 50 base
walking_first s n base = record { left = n; all = refl; far = omega arith; low = omega arith; keeps = refl }

module _ (s : List ℕ) (n : ℕ) where
  none_left : (k x : ℕ) (out : List ℕ) → n ≤ x + 8 → each_packet k s n x out ≡ out
  none_left zero x out h = refl
  none_left (suc k) x out h = rw (le-ltb (x + 8) n h)

  one_put : (k x : ℕ) (out : List ℕ) → x + 8 < n
      → each_packet (suc k) s n x out ≡ cond (eqb (number_in s 13 (x + 10)) 0) (packet_put s x out) (each_packet k s n (packet_end s x) (packet_put s x out))
  one_put k x out h = rw (lt-ltb (x + 8) n h)

  module _ {base : List ℕ} {x : ℕ} {out : List ℕ} (g : Walking s n base x out) where
    -- at the end mark
    pub walking_ends : n ≤ x + 8 → out ≡ each_packet n s n 50 base
    walking_ends h = sym (g.all ∙ none_left g.left x out h)

    module _ (h : x + 8 < n) {after : List ℕ} (e : after ≡ packet_put s x out) where
      more : g.left ≡ suc (g.left - 1)
      more = omega (arith, g.far)

      step : each_packet n s n 50 base
          ≡ cond (eqb (number_in s 13 (x + 10)) 0) (packet_put s x out) (each_packet (g.left - 1) s n (packet_end s x) (packet_put s x out))
      step = g.all ∙ ap (λ (k : ℕ). each_packet k s n x out) more ∙ one_put (g.left - 1) x out h

      -- a packet that says that it has no bits
      pub walking_stops : number_in s 13 (x + 10) ≡ 0 → after ≡ each_packet n s n 50 base
      walking_stops z = e ∙ sym (rw (eq-eqb (number_in s 13 (x + 10)) 0 z) at step)

      pub walking_on : (number_in s 13 (x + 10) ≡ 0 → ⊥) → length after ≡ length out → {y : ℕ} → y ≡ packet_end s x → Walking s n base y after
      walking_on z l {y} hy =
          let b = number_lt s 13 (x + 10) in
          record {
            left = g.left - 1;
            all = rw (e, hy) (rw (ne_eqb (number_in s 13 (x + 10)) 0 z) at step);
            far = omega (arith, g.far);
            low = omega (arith, g.low);
            keeps = l ∙ g.keeps;
          }

-- ---- what is promised, by the tests

module _ (s : List ℕ) (n : ℕ) (out : List ℕ) where
  pub patched_short : length s < 8 → out ≡ patched_to s n out
  unfolding patched_to
  patched_short h = rw (lt-leb 8 (length s) h)

  module _ (long : 8 ≤ length s) where
    pub patched_little : length out < 4 → out ≡ patched_to s n out
    unfolding patched_to
    patched_little h = rw (le-leb 8 (length s) long, lt-leb 4 (length out) h)

    module _ (four : 4 ≤ length out) where
      pub patched_far : 830 < n → out ≡ patched_to s n out
      unfolding patched_to
      patched_far h = rw (le-leb 8 (length s) long, le-leb 4 (length out) four, lt-leb n 830 h)

      pub patched_is : n ≤ 830 → each_packet n s n 50 out ≡ patched_to s n out
      unfolding patched_to
      patched_is h = rw (le-leb 8 (length s) long, le-leb 4 (length out) four, le-leb n 830 h)
