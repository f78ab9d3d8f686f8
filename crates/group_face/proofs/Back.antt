-- What an answer for C was made of can be told apart again: a count is below 1,024, and a refusal's number, which and place are its highest 5, the 49 in
-- the middle and its lowest 10 bits. Assumes nothing.
use Rattle.std.specs.Prelude.{Ok, Err}
use mathlib.Core.Path.{◌≡◌}
use Prim.Native.Nat.{ℕ, ◌/◌, ◌%◌, ◌^◌, ◌≤◌, ◌<◌}
use native.Mathlib.Omega.{arith}
use Rattle.group.specs.declared.Fault.{Fault}
use Rattle.group.specs.Groups.{cause_number}
use Rattle.group_face.specs.GroupCodes.{group_code}

pub count_back : (n : ℕ) → n ≤ 264 → group_code (Ok n) / 2 ^ 59 ≡ 0
count_back n h = omega arith

module _ (f : Fault) where
  pub number_back : group_code (Err f) / 2 ^ 59 ≡ cause_number f.cause
  number_back = omega arith

  pub which_back : f.which < 2 ^ 49 → group_code (Err f) / 1024 % 2 ^ 49 ≡ f.which
  which_back h = omega arith

  pub place_back : f.place < 1024 → group_code (Err f) % 1024 ≡ f.place
  place_back h = omega arith
