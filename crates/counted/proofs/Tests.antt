-- What was counted passed its tests: a definition that answers 0 where a test fails, taken apart. Assumes nothing.
use mathlib.Core.Bool.{Bool, true, false, cond, ◌&&◌}
use mathlib.Core.Path.{◌≡◌, refl}
use Prim.Native.Nat.{ℕ, ◌<◌}
use native.Mathlib.Omega.{arith}
use borrow.Author.Tests.{eqb-true}
use lib.Dec.{eqb}
use Rattle.hops.specs.Hops.{hop_if}
use Rattle.hops.specs.declared.Hop.{Hop}

pub cond_true : (b : Bool) (v : ℕ) → 0 < cond b v 0 → b ≡ true
cond_true true v h = refl
cond_true false v h = absurd (omega arith)

pub cond_false : (b : Bool) (v : ℕ) → 0 < cond b 0 v → b ≡ false
cond_false true v h = absurd (omega arith)
cond_false false v h = refl

-- two numbers that were compared
pub some_equal : (a b v : ℕ) → 0 < cond (eqb a b) v 0 → a ≡ b
some_equal a b v h = eqb-true a b (cond_true (eqb a b) v h)

-- both of two tests
pub both_true : (a b : Bool) → (a && b) ≡ true → (a ≡ true) × (b ≡ true)
both_true true b e = (refl, e)
both_true false b e = let z : ◌≡◌ {A = ℕ} 0 1 = cc in absurd (omega arith)

-- a group that keeps its rules
pub hop_true : (b : Bool) (h : Hop) → 0 < (hop_if b h).bits → b ≡ true
hop_true true h k = refl
hop_true false h k = absurd (omega arith)
