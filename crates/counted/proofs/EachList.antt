-- The lists of each kind of packet, as far as they are counted. Assumes nothing.
use mathlib.Core.Bool.{Bool, true, false, ◌&&◌}
use mathlib.Core.List.{List}
use Prim.Native.Nat.{ℕ, ◌+◌, ◌*◌, ◌/◌, ◌≤◌, ◌<◌}
use native.Mathlib.Omega.{arith}
use lib.Dec.{leb}
use lib.ListN.{length}
use Rattle.bits.specs.Ahead.{behind}
use Rattle.format.specs.Fields.{N_ITER}
use Rattle.format.specs.Packets.{Items, ◌⧺◌}
use Rattle.format.specs.Packets.Items.{end, send_times}
use Rattle.hops.specs.Hops.{hop, hop_if, link_in, level_in, leveled, transition_in, choice_in, condition_in, position_in, circuit_in}
use Rattle.hops.specs.declared.Hop.{Hop}
use Rattle.hops.proofs.Bounds.{level_small}
use Rattle.lists.specs.Lists.{list_at, links_at, levels_at, choices_at, conditions_at, circuits_at, apart_at}
use Rattle.wide_lists.specs.WideLists.{speed_at, position_at, speeds_at, positions_at}
use Rattle.counted.proofs.Groups.{link, link_passed, condition, condition_passed, position, position_passed, circuit, circuit_passed}
use Rattle.counted.proofs.Levels.{transition, transition_passed, choice, choice_passed}
use Rattle.counted.proofs.Listed.{Through, Narrow, by_window, list_through, apart_through, list_behind}
use Rattle.counted.proofs.Speeds.{speed, speed_passed}

-- ---- groups that are narrow enough for N_ITER to stand behind them in their window

hop_narrow : (b : Bool) (h : Hop) → h.bits ≤ 52 → (hop_if b h).bits ≤ 52
hop_narrow true h l = l
hop_narrow false h l = omega arith

link_narrow : Narrow link_in
unfolding link_in
link_narrow w = hop_narrow (leb (behind w (31 + 10 * behind w 15 1) 2) 2) (hop (39 + 10 * behind w 15 1) (6 + behind w 15 1)) (omega arith)

leveled_narrow : (b more fields : ℕ) → b ≤ 11 → more ≤ 15 → (leveled b more fields).bits ≤ 52
unfolding leveled
leveled_narrow b more fields h k = hop_narrow (leb 1 b) (hop (b + more) (fields + b / 8)) (omega arith)

transition_narrow : Narrow transition_in
transition_narrow w = leveled_narrow (level_in 4 w) 15 2 (level_small 4 w) (omega arith)

choice_narrow : Narrow choice_in
choice_narrow w = leveled_narrow (level_in 4 w) 0 1 (level_small 4 w) (omega arith)

condition_narrow : Narrow condition_in
unfolding condition_in
condition_narrow w = hop_narrow (leb (behind w 30 4) 9) (hop 34 3) (omega arith)

circuit_narrow : Narrow circuit_in
unfolding circuit_in
circuit_narrow w = hop_narrow (leb (behind w 0 4) 7 && leb (behind w 4 5) 12) (hop 24 3) (omega arith)

-- ---- packets, from the bit x to the bit e

-- a group, N_ITER, and as many groups more
abbrev pub listed : Items → Items
listed t = t ⧺ send_times N_ITER t end

module _ (s : List ℕ) (n e : ℕ) (room : e ≤ 8 * length s) (x : ℕ) where
  pub links_through : 0 < links_at s n e x → Through s (listed link) (x + 25) e 4 (links_at s n e x)
  unfolding links_at
  links_through = list_behind n 25 (list_at s n 39 link_in e 4) x (list_through s link_in link (link_passed s) link_narrow n 39 e room 4 (x + 25))

  pub levels_through : 0 < levels_at s n e x → Through s (listed transition) (x + 40) e 5 (levels_at s n e x)
  unfolding levels_at
  levels_through =
      list_behind n 40 (list_at s n 18 transition_in e 5) x
      (list_through s transition_in transition (transition_passed s) transition_narrow n 18 e room 5 (x + 40))

  pub choices_through : 0 < choices_at s n e x → Through s (listed choice) (x + 23) e 3 (choices_at s n e x)
  unfolding choices_at
  choices_through =
      list_behind n 23 (list_at s n 3 choice_in e 3) x (list_through s choice_in choice (choice_passed s) choice_narrow n 3 e room 3 (x + 23))

  pub conditions_through : 0 < conditions_at s n e x → Through s (listed condition) (x + 26) e 5 (conditions_at s n e x)
  unfolding conditions_at
  conditions_through =
      list_behind n 26 (list_at s n 34 condition_in e 5) x
      (list_through s condition_in condition (condition_passed s) condition_narrow n 34 e room 5 (x + 26))

  pub circuits_through : 0 < circuits_at s n e x → Through s (listed circuit) (x + 64) e 8 (circuits_at s n e x)
  unfolding circuits_at
  circuits_through =
      list_behind n 64 (list_at s n 24 circuit_in e 8) x
      (list_through s circuit_in circuit (circuit_passed s) circuit_narrow n 24 e room 8 (x + 64))

  pub speeds_through : 0 < speeds_at s n e x → Through s (listed speed) (x + 25) e 4 (speeds_at s n e x)
  unfolding speeds_at
  speeds_through =
      list_behind n 25 (apart_at (speed_at s n) s n e 4) x (apart_through s (speed_at s n) speed (speed_passed s n) n e room 4 (x + 25))

  pub positions_through : 0 < positions_at s n e x → Through s (listed position) (x + 25) e 4 (positions_at s n e x)
  unfolding positions_at
  positions_through =
      list_behind n 25 (apart_at (position_at s n) s n e 4) x
      (apart_through s (position_at s n) position (by_window s n 51 position_in position (position_passed s)) n e room 4 (x + 25))
