-- Two lists are the same where every number is: what `same` finds. Assumes nothing.
use mathlib.Core.Bool.{Bool, true, false, ◌&&◌}
use mathlib.Core.List.{List, [], ◌∷◌}
use mathlib.Core.Path.{◌≡◌, refl, ap₂}
use Prim.Native.Nat.{ℕ}
use native.Mathlib.Omega.{arith}
use borrow.Author.Tests.{eq-eqb, eqb-true}
use lib.Dec.{eqb}
use Rattle.bits.specs.Bits.{same}

pub same_true : (bs cs : List ℕ) → same bs cs ≡ true → bs ≡ cs
same_true [] [] h = refl
same_true [] (c ∷ cs) h = let z : ◌≡◌ {A = ℕ} 0 1 = cc in absurd (omega arith)
same_true (b ∷ bs) [] h = let z : ◌≡◌ {A = ℕ} 0 1 = cc in absurd (omega arith)
same_true (b ∷ bs) (c ∷ cs) h = by_first (eqb b c) refl h (same_true bs cs)
  where
    by_first : (t : Bool) → eqb b c ≡ t → (t && same bs cs) ≡ true → (same bs cs ≡ true → bs ≡ cs) → (b ∷ bs) ≡ (c ∷ cs)
    by_first true e g f = ap₂ (λ (u : ℕ) (us : List ℕ). u ∷ us) (eqb-true b c e) (f g)
    by_first false e g f = let z : ◌≡◌ {A = ℕ} 0 1 = cc in absurd (omega arith)

pub same_self : (bs : List ℕ) → same bs bs ≡ true
same_self [] = refl
same_self (b ∷ bs) = rw (eq-eqb b b refl) (same_self bs)
