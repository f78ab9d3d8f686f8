-- What C is answered says it all: 0 just where the telegram is accepted, and otherwise the refusal's number and its place. Assumes nothing.
use Rattle.std.specs.Prelude.{Ok, Err}
use mathlib.Core.Path.{◌≡◌, refl}
use Prim.Native.Nat.{ℕ, ◌/◌, ◌%◌}
use native.Mathlib.Omega.{arith}
use Rattle.format.specs.Refusals.{number_of, code_of, Answer}
use Rattle.format.specs.declared.Refusal.{Refusal}
use Rattle.format.proofs.Numbers.{number_in}
use Rattle.sinkerpost.specs.Codes.{Placed}

module _ (r : Refusal) (h : Placed (Err r)) where
  pub number_back : code_of (Err r) / 1024 ≡ number_of r.kind
  number_back = omega arith

  pub place_back : code_of (Err r) % 1024 ≡ r.place
  place_back = omega arith

-- 0 is no refusal's
pub zero_accepted : (a : Answer) → code_of a ≡ 0 → (n : ℕ) × (a ≡ Ok n)
zero_accepted (Ok n) e = (n, refl)
zero_accepted (Err r) e = let k = number_in r.kind in absurd (omega arith)

pub accepted_zero : (n : ℕ) → code_of (Ok n) ≡ 0
accepted_zero n = refl
