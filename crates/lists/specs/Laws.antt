-- A group that is known by its window: how large it is, and where it begins. Assumes nothing.
use Rattle.std.specs.Prelude.{Some, None, Option}
use mathlib.Core.Path.{◌≡◌, refl}
use mathlib.Core.List.{List}
use Prim.Native.Nat.{ℕ, ◌≤◌}
use native.Mathlib.Omega.{arith}
use Rattle.bits.specs.Ahead.{ahead_at}
use Rattle.bits.specs.declared.Cursor.{Cursor}
use Rattle.bits.proofs.Sight.{sighted}
use Rattle.hops.specs.Hops.{Small}
use Rattle.hops.specs.declared.Hop.{Hop}
use Rattle.lists.specs.Lists.{hop_seen, group_at}

module _ (width : ℕ) (f : ℕ → Hop) where
  hop_small : ((w : ℕ) → Small (f w)) → (t : Option (ℕ × Cursor)) → Small (hop_seen t f)
  hop_small k (Some (w, c)) = k w
  hop_small k None = (omega arith, omega arith)

  pub seen_small : ((w : ℕ) → Small (f w)) → (s : List ℕ) (n x : ℕ) → Small (group_at s n width f x)
  unfolding group_at
  seen_small k s n x = hop_small k (ahead_at s n width x)

  hop_inside : (s : List ℕ) (n x : ℕ) (t : Option (ℕ × Cursor)) → ahead_at s n width x ≡ t → ((hop_seen t f).bits ≡ 0 → ⊥) → x ≤ n
  hop_inside s n x (Some (w, c)) e b = let i = sighted s n width x w c e in omega (arith, i.within)
  hop_inside s n x None e b = absurd (b refl)

  pub seen_inside : (s : List ℕ) (n x : ℕ) → ((group_at s n width f x).bits ≡ 0 → ⊥) → x ≤ n
  unfolding group_at
  seen_inside s n x b = hop_inside s n x (ahead_at s n width x) refl b
