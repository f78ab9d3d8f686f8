-- A part of a number exchanged for another of so many bits, by a difference and a sum. Assumes nothing.
use mathlib.Core.Path.{◌≡◌, sym}
use Prim.Native.Nat.{ℕ, ◌+◌, ◌-◌, ◌*◌, ◌/◌, ◌%◌, ◌^◌, ◌≤◌, ◌<◌}
use native.Mathlib.Nat.{add_comm, add-mul, mod-lt}
use native.Mathlib.Omega.{arith}
use lib.Pow.{split, shr-shr, shl_exact, pow_pos}

module _ (w x t low : ℕ) (small : x < 2 ^ t) (few : t + low ≤ 64) where
  abbrev old : ℕ
  old = w / 2 ^ low % 2 ^ t

  pub old_lt : old < 2 ^ t
  old_lt = mod-lt (w / 2 ^ low) (pow_pos t)

  -- the number in three parts
  parts : w ≡ w / 2 ^ (t + low) * 2 ^ t * 2 ^ low + old * 2 ^ low + w % 2 ^ low
  parts =
      let a = split w low in
      let b = rw (shr-shr w low t, add_comm low t) at (split (w / 2 ^ low) t) in
      let c : (w / 2 ^ (t + low) * 2 ^ t + old) * 2 ^ low + w % 2 ^ low ≡ w = rw b a in
      sym (rw (add-mul (w / 2 ^ (t + low) * 2 ^ t) old (2 ^ low)) at c)

  pub old_moved : old * 2 ^ low % 2 ^ 64 ≡ old * 2 ^ low
  old_moved = shl_exact t low 64 old_lt few

  pub new_moved : x * 2 ^ low % 2 ^ 64 ≡ x * 2 ^ low
  new_moved = shl_exact t low 64 small few

  pub old_under : old * 2 ^ low ≤ w
  old_under = omega (arith, parts)

  pub exchanged : w - old * 2 ^ low + x * 2 ^ low ≡ (w / 2 ^ (t + low) * 2 ^ t + x) * 2 ^ low + w % 2 ^ low
  exchanged = rw (add-mul (w / 2 ^ (t + low) * 2 ^ t) x (2 ^ low)) (omega (arith, parts))
