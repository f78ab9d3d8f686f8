-- How large a group is, whatever the window holds. Assumes nothing.
use mathlib.Core.Bool.{Bool, true, false, cond, ◌&&◌}
use Prim.Native.Nat.{ℕ, ◌+◌, ◌*◌, ◌/◌, ◌%◌, ◌^◌, ◌≤◌, ◌<◌}
use native.Mathlib.Nat.{mod-lt}
use native.Mathlib.Omega.{arith}
use lib.Dec.{eqb, leb}
use Rattle.bits.specs.Ahead.{behind}
use Rattle.hops.specs.Hops.{Small, hop, hop_if, link_in, level_in, leveled, transition_in, choice_in, condition_in, position_in, circuit_in}
use Rattle.hops.specs.declared.Hop.{Hop}

none_or : (b : Bool) (h : Hop) → Small h → Small (hop_if b h)
none_or true h k = k
none_or false h k = (omega arith, omega arith)

pub link_small : (w : ℕ) → Small (link_in w)
unfolding link_in
link_small w =
    none_or (leb (behind w (31 + 10 * behind w 15 1) 2) 2) (hop (39 + 10 * behind w 15 1) (6 + behind w 15 1)) (omega arith, omega arith)

either : (b : Bool) (x y m : ℕ) → x ≤ m → y ≤ m → cond b x y ≤ m
either true x y m h k = h
either false x y m h k = k

-- 0, 3 or 11 bits
pub level_small : (most w : ℕ) → level_in most w ≤ 11
unfolding level_in
level_small most w =
    let stm = leb 1 (behind w 3 8) && leb (behind w 3 8) 3 in
    let low = leb (behind w 0 3) most in
    either (eqb (behind w 0 3) 1) (cond stm 11 0) (cond low 3 0) 11 (either stm 11 0 11 (omega arith) (omega arith))
    (either low 3 0 11 (omega arith) (omega arith))

leveled_small : (b more fields : ℕ) → b ≤ 11 → more ≤ 15 → fields ≤ 2 → Small (leveled b more fields)
unfolding leveled
leveled_small b more fields h k l = none_or (leb 1 b) (hop (b + more) (fields + b / 8)) (omega arith, omega arith)

pub transition_small : (w : ℕ) → Small (transition_in w)
transition_small w = leveled_small (level_in 4 w) 15 2 (level_small 4 w) (omega arith) (omega arith)

pub choice_small : (w : ℕ) → Small (choice_in w)
choice_small w = leveled_small (level_in 4 w) 0 1 (level_small 4 w) (omega arith) (omega arith)

pub condition_small : (w : ℕ) → Small (condition_in w)
unfolding condition_in
condition_small w = none_or (leb (behind w 30 4) 9) (hop 34 3) (omega arith, omega arith)

pub position_small : (w : ℕ) → Small (position_in w)
unfolding position_in
position_small w = (omega arith, omega arith)

pub circuit_small : (w : ℕ) → Small (circuit_in w)
unfolding circuit_in
circuit_small w = none_or (leb (behind w 0 4) 7 && leb (behind w 4 5) 12) (hop 24 3) (omega arith, omega arith)

-- an N_ITER, wherever it stands
pub iter_small : (w o : ℕ) → behind w o 5 ≤ 31
iter_small w o = below (w * 2 ^ o % 2 ^ 64) (mod-lt _ (omega arith))
  where
    below : (x : ℕ) → x < 2 ^ 64 → x / 2 ^ 59 ≤ 31
    below x h = omega arith
