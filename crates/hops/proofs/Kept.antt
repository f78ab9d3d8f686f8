-- A group and a number as the code has them, Some or None. Assumes nothing.
use Rattle.std.specs.Prelude.{Some, None, Option}
use mathlib.Core.Bool.{Bool, true, false, cond}
use mathlib.Core.Path.{◌≡◌, refl, sym, ap, ◌∙◌}
use Prim.Native.Nat.{ℕ, zero, suc, ◌≤◌}
use native.Mathlib.Omega.{arith}
use lib.Dec.{eqb}
use borrow.Author.Tests.{eq-eqb, ne_eqb}
use Rattle.hops.specs.Hops.{kept, counted, leveled}
use Rattle.hops.specs.declared.Hop.{Hop}
use Rattle.hops.proofs.Tests.{leveled_some}

held : {A : Type 0} (x y : A) → ◌≡◌ {A = Option A} (Some x) (Some y) → x ≡ y
held x y e = cc

-- one with a bit is Some
some_kept : (h : Hop) → 1 ≤ h.bits → Some h ≡ kept h
some_kept h b = rw (ne_eqb h.bits 0 (λ z. absurd (omega (arith, b, z))))

pub is_kept : {h k : Hop} → h ≡ k → 1 ≤ h.bits → Some h ≡ kept k
is_kept {h = h} e b = some_kept h b ∙ ap kept e

-- and nothing else is
by_bits : (b : Bool) (h k : Hop) → ◌≡◌ {A = Option Hop} (cond b None (Some h)) (Some k) → (h ≡ k) × (b ≡ false)
by_bits true h k e = cc
by_bits false h k e = (held h k e, refl)

no_bits : (b : Bool) (h : Hop) → ◌≡◌ {A = Option Hop} (cond b None (Some h)) None → b ≡ true
no_bits true h e = refl
no_bits false h e = cc

no_bit : (n : ℕ) → eqb n 0 ≡ true → n ≡ 0
no_bit zero e = refl
no_bit (suc n) e = absurd (let i : true ≡ false = sym e ∙ ne_eqb (suc n) 0 (λ z. absurd (omega (arith, z))) in cc)

a_bit : (n : ℕ) → eqb n 0 ≡ false → n ≡ 0 → ⊥
a_bit n e z = absurd (let i : true ≡ false = sym (eq-eqb n 0 z) ∙ e in cc)

pub kept_is : (h k : Hop) → kept h ≡ Some k → h ≡ k
kept_is h k e = (by_bits (eqb h.bits 0) h k e).0

pub kept_bits : (h k : Hop) → kept h ≡ Some k → h.bits ≡ 0 → ⊥
kept_bits h k e = a_bit h.bits (by_bits (eqb h.bits 0) h k e).1

pub kept_none : (h : Hop) → kept h ≡ None → h.bits ≡ 0
kept_none h e = no_bit h.bits (no_bits (eqb h.bits 0) h e)

-- a number
pub is_counted : {n m : ℕ} → n ≡ m → 1 ≤ n → Some n ≡ counted m
is_counted {n = zero} e l = absurd (omega (arith, l))
is_counted {n = suc k} e l = ap counted e

pub counted_is : (n k : ℕ) → counted n ≡ Some k → n ≡ k
counted_is zero k e = cc
counted_is (suc n) k e = held (suc n) k e

pub counted_none : (n : ℕ) → counted n ≡ None → n ≡ 0
counted_none zero e = refl
counted_none (suc n) e = cc

-- a level, and what follows it
pub counted_few : (n k most : ℕ) → counted n ≡ Some k → n ≤ most → (1 ≤ k) × (k ≤ most)
counted_few zero k most e l = cc
counted_few (suc n) k most e l = let i = held (suc n) k e in (omega arith, omega arith)

-- a level that is there, with what follows it
pub is_leveled : (more fields : ℕ) {n k : ℕ} {h : Hop} → n ≡ k → 1 ≤ k → h ≡ leveled k more fields → Some h ≡ kept (leveled n more fields)
is_leveled more fields {k = k} e l is =
    let b : 1 ≤ (leveled k more fields).bits = rw (← leveled_some k more fields (λ z. absurd (omega (arith, l, z)))) (omega arith) in
    rw (is, e) (some_kept (leveled k more fields) b)
