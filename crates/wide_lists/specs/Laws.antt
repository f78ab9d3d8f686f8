-- A group of ETCS-27: how large it is, and where it begins. Assumes nothing.
use Rattle.std.specs.Prelude.{Some, None, Option}
use mathlib.Core.Path.{◌≡◌, refl}
use mathlib.Core.Bool.{Bool, true, false}
use mathlib.Core.List.{List}
use Prim.Native.Nat.{ℕ, ◌+◌, ◌*◌, ◌≤◌}
use native.Mathlib.Omega.{arith}
use Rattle.bits.specs.Ahead.{behind, ahead_at}
use Rattle.bits.specs.declared.Cursor.{Cursor}
use Rattle.bits.proofs.Sight.{sighted}
use Rattle.hops.specs.Hops.{Small, hop, hop_if}
use Rattle.hops.proofs.Bounds.{iter_small}
use Rattle.lists.specs.Lists.{hop_seen}
use Rattle.wide_lists.specs.WideLists.{differing, speed_with, speed_at}

with_small : (b : Bool) (k : ℕ) → k ≤ 31 → Small (hop_if b (hop (28 + 11 * k) (4 + 2 * k)))
with_small true k h = (omega arith, omega arith)
with_small false k h = (omega arith, omega arith)

module _ (s : List ℕ) (n x : ℕ) where
  seen_small : (t : Option (ℕ × Cursor)) → Small (hop_seen t (λ w. speed_with s n (behind w 23 5) (x + 28)))
  unfolding speed_with
  seen_small (Some (w, c)) = with_small (differing s n (behind w 23 5) (x + 28)) (behind w 23 5) (iter_small w 23)
  seen_small None = (omega arith, omega arith)

  pub speed_small : Small (speed_at s n x)
  unfolding speed_at
  speed_small = seen_small (ahead_at s n 28 x)

  seen_inside : (t : Option (ℕ × Cursor)) → ahead_at s n 28 x ≡ t → ((hop_seen t (λ w. speed_with s n (behind w 23 5) (x + 28))).bits ≡ 0 → ⊥) → x ≤ n
  seen_inside (Some (w, c)) e b = let i = sighted s n 28 x w c e in omega (arith, i.within)
  seen_inside None e b = absurd (b refl)

  pub speed_inside : ((speed_at s n x).bits ≡ 0 → ⊥) → x ≤ n
  unfolding speed_at
  speed_inside b = seen_inside (ahead_at s n 28 x) refl b
