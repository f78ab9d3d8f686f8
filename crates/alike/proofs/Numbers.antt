-- What is answered of two telegrams is known by its numbers. Assumes nothing.
use Rattle.std.specs.Prelude.{Ok, true, false, Err, Result, Bool}
use mathlib.Core.Path.{◌≡◌, refl, ap}
use Prim.Native.Nat.{ℕ}
use native.Mathlib.Omega.{arith}
use Rattle.format.specs.declared.Refusal.{Refusal}
use Rattle.format.proofs.Numbers.{refusal_is}
use Rattle.alike.specs.Pairs.{in_numbers}
use Rattle.alike.specs.declared.PairError.TheVariants.{First, Second}
use Rattle.alike.specs.declared.PairError.{PairError}

abbrev Numbers : Type 0
Numbers = ℕ × ℕ × ℕ

pub which : {x y : Numbers} → x ≡ y → x.0 ≡ y.0
which h = ap (λ (x : Numbers). x.0) h

number : {x y : Numbers} → x ≡ y → x.1 ≡ y.1
number h = ap (λ (x : Numbers). x.1) h

value : {x y : Numbers} → x ≡ y → x.2 ≡ y.2
value h = ap (λ (x : Numbers). x.2) h

pub alike_is : (a b : Result Bool PairError) → in_numbers a ≡ in_numbers b → a ≡ b
alike_is (Ok true) (Ok true) h = refl
alike_is (Ok true) (Ok false) h = absurd (omega (arith, value h))
alike_is (Ok true) (Err (First q)) h = absurd (omega (arith, which h))
alike_is (Ok true) (Err (Second q)) h = absurd (omega (arith, which h))
alike_is (Ok false) (Ok true) h = absurd (omega (arith, value h))
alike_is (Ok false) (Ok false) h = refl
alike_is (Ok false) (Err (First q)) h = absurd (omega (arith, which h))
alike_is (Ok false) (Err (Second q)) h = absurd (omega (arith, which h))
alike_is (Err (First r)) (Ok true) h = absurd (omega (arith, which h))
alike_is (Err (First r)) (Ok false) h = absurd (omega (arith, which h))
alike_is (Err (First r)) (Err (First q)) h = ap (λ (x : Refusal). Err (First x)) (refusal_is r q (number h) (value h))
alike_is (Err (First r)) (Err (Second q)) h = absurd (omega (arith, which h))
alike_is (Err (Second r)) (Ok true) h = absurd (omega (arith, which h))
alike_is (Err (Second r)) (Ok false) h = absurd (omega (arith, which h))
alike_is (Err (Second r)) (Err (First q)) h = absurd (omega (arith, which h))
alike_is (Err (Second r)) (Err (Second q)) h = ap (λ (x : Refusal). Err (Second x)) (refusal_is r q (number h) (value h))
