-- Lists whose groups are too wide for one window with N_ITER behind it: those of ETCS-27 and ETCS-79. Definitions alone.
use Rattle.std.specs.Prelude.{Bool, true, false, ◌&&◌, List, ℕ, zero, suc, ◌+◌, ◌*◌, leb, Some, None, Option}
use Rattle.bits.specs.Ahead.{behind, ahead_at}
use Rattle.bits.specs.Take.{taken_at}
use Rattle.hops.specs.Hops.{hop, hop_if, position_in}
use Rattle.hops.specs.declared.Hop.{Hop}
use Rattle.lists.specs.Lists.{hop_seen, group_at, apart_at, packet_list}
use Rattle.bits.specs.declared.Cursor.{Cursor}

-- **27**: D_STATIC 15, V_STATIC 7, Q_FRONT 1, and an inner list (N_ITER 5) of NC_DIFF 4 (0..2), V_DIFF 7

abbrev pub where_taken : Option (ℕ × Cursor) → (ℕ → ℕ → Bool) → Bool
where_taken (Some (v, c)) f = f v c.at
where_taken None f = false

-- each of so many NC_DIFF keeps its rule, the first at the bit x
unfoldable pub differing : List ℕ → ℕ → ℕ → ℕ → Bool
differing s n zero x = true
differing s n (suc k) x = where_taken (taken_at s n 4 x) (λ v y. leb v 2 && differing s n k (y + 7))

-- with so many of them, the first at the bit x
unfoldable pub speed_with : List ℕ → ℕ → ℕ → ℕ → Hop
speed_with s n k x = hop_if (differing s n k x) (hop (28 + 11 * k) (4 + 2 * k))

unfoldable pub speed_at : List ℕ → ℕ → ℕ → Hop
speed_at s n x = hop_seen (ahead_at s n 28 x) (λ w. speed_with s n (behind w 23 5) (x + 28))

-- **79**
abbrev pub position_at : List ℕ → ℕ → ℕ → Hop
position_at s n = group_at s n 51 position_in

-- lists, whose N_ITER is taken by itself
unfoldable pub speeds_at : List ℕ → ℕ → ℕ → ℕ → ℕ
speeds_at s n e = packet_list n 25 (apart_at (speed_at s n) s n e 4)

unfoldable pub positions_at : List ℕ → ℕ → ℕ → ℕ → ℕ
positions_at s n e = packet_list n 25 (apart_at (position_at s n) s n e 4)
