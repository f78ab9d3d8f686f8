-- The groups of lists: how many bits and values each has, by the window at its first bit. docs/RULES.md, "Packets", has their fields; behind a field's width stands
-- its range, where it has one. Definitions alone.
use Rattle.std.specs.Prelude.{Bool, true, false, cond, ◌&&◌, ℕ, ◌+◌, ◌*◌, ◌/◌, ◌≤◌, zero, suc, eqb, leb, Some, None, Option}
use Rattle.bits.specs.Ahead.{behind}
use Rattle.hops.specs.declared.Hop.{Hop}

abbrev pub hop : ℕ → ℕ → Hop
hop b v = record { bits = b; values = v }

-- one that breaks a rule, or is not there
abbrev pub none : Hop
none = hop 0 0

-- what the code has of one: nothing where it has no bit
abbrev pub kept : Hop → Option Hop
kept h = cond (eqb h.bits 0) None (Some h)

-- and of a number of bits or values, of which 0 stands for none
abbrev pub counted : ℕ → Option ℕ
counted zero = None
counted (suc k) = Some (suc k)

-- one that keeps its rules where this holds
abbrev pub hop_if : Bool → Hop → Hop
hop_if true h = h
hop_if false h = none

-- **5**: D_LINK 15, Q_NEWCOUNTRY 1, NID_C 10 only if that is 1, NID_BG 14, Q_LINKORIENTATION 1, Q_LINKREACTION 2 (0..2), Q_LOCACC 6
unfoldable pub link_in : ℕ → Hop
link_in w = hop_if (leb (behind w (31 + 10 * behind w 15 1) 2) 2) (hop (39 + 10 * behind w 15 1) (6 + behind w 15 1))

-- a level 3 (0..most), and NID_STM 8 (1..3) only if that is 1: how many bits they are
unfoldable pub level_in : ℕ → ℕ → ℕ
level_in most w =
    cond (eqb (behind w 0 3) 1) (cond (leb 1 (behind w 3 8) && leb (behind w 3 8) 3) 11 0) (cond (leb (behind w 0 3) most) 3 0)

-- **41**: M_LEVELTR 3 (0..4), NID_STM 8 only if that is 1, L_ACKLEVELTR 15; **46**: the same without the last
unfoldable pub leveled : ℕ → ℕ → ℕ → Hop
leveled b more fields = hop_if (leb 1 b) (hop (b + more) (fields + b / 8))

abbrev pub transition_in : ℕ → Hop
transition_in w = leveled (level_in 4 w) 15 2

abbrev pub choice_in : ℕ → Hop
choice_in w = leveled (level_in 4 w) 0 1

-- **68**: D_TRACKCOND 15, L_TRACKCOND 15, M_TRACKCOND 4 (0..9)
unfoldable pub condition_in : ℕ → Hop
condition_in w = hop_if (leb (behind w 30 4) 9) (hop 34 3)

-- **79**: Q_NEWCOUNTRY 1, NID_C 10 only if that is 1, NID_BG 14, D_POSOFF 15, Q_MPOSITION 1, M_POSITION 20
unfoldable pub position_in : ℕ → Hop
position_in w = hop (51 + 10 * behind w 0 1) (5 + behind w 0 1)

-- CTCS **1**: NID_SIGNAL 4 (0..7), NID_FREQUENCY 5 (0..12), L_SECTION 15
unfoldable pub circuit_in : ℕ → Hop
circuit_in w = hop_if (leb (behind w 0 4) 7 && leb (behind w 4 5) 12) (hop 24 3)

-- no more bits and values than the largest group of all has, one of ETCS-27: 28 and 31 times 11, and 4 and 31 times 2
abbrev pub Small : Hop → Type 0
Small h = (h.bits ≤ 369) × (h.values ≤ 66)
