-- What packets hold that are no list to their end, from the bit x to the bit e: how many values, where the rules behind their heads are kept, and else 0.
-- Definitions alone.
use Rattle.std.specs.Prelude.{false, cond, List, ℕ, zero, suc, ◌+◌, ◌*◌, ◌/◌, ◌^◌, eqb, leb, Some, None, Option}
use Rattle.bits.specs.Ahead.{behind, ahead_at}
use Rattle.bits.specs.Take.{taken_at, skip_at}
use Rattle.format.specs.Rules.{radio_from}
use Rattle.hops.specs.Hops.{level_in}
use Rattle.lists.specs.Lists.{if_skipped, if_taken, if_seen, conditions_at}

-- what the code has: so many values, where what is counted is not 0
abbrev pub so_many : ℕ → ℕ → Option ℕ
so_many v zero = None
so_many v (suc k) = Some v

-- so many, where it is as long as it is to be
unfoldable pub sized_by : ℕ → ℕ → ℕ → ℕ
sized_by long wanted v = cond (eqb long wanted) v 0

-- **42**, **131**: of that length, with a NID_RADIO 64 (digits, then only F) so many bits behind x, taken in two halves
unfoldable pub radio_at : List ℕ → ℕ → ℕ → ℕ → ℕ → ℕ → ℕ → ℕ
radio_at s n x place long wanted v =
    cond (eqb long wanted)
    (if_skipped (skip_at n place x)
    (λ y. if_taken (ahead_at s n 32 y)
    (λ a z. if_seen (ahead_at s n 32 z)
    (λ b. cond (radio_from 16 false (behind a 0 32 * 2 ^ 32 + behind b 0 32)) v 0))))
    0

-- **68**: Q_TRACKINIT 1. If 1: D_TRACKINIT 15 and the packet ends. If 0: a list
unfoldable pub track_at : List ℕ → ℕ → ℕ → ℕ → ℕ → ℕ → ℕ
track_at s n e x long initial = cond (eqb initial 1) (sized_by long 41 6) (conditions_at s n e x)

-- CTCS **2**: a list of which no rule reads anything
unfoldable pub restricted_at : List ℕ → ℕ → ℕ → ℕ → ℕ
restricted_at s n x long =
    if_skipped (skip_at n 102 x) (λ y. if_taken (taken_at s n 5 y) (λ k z. sized_by long (107 + 38 * k) (13 + 4 * k)))

-- CTCS **5**: Q_STOP 1 (0)
unfoldable pub stopping_at : ℕ → ℕ → ℕ
stopping_at long stop = cond (eqb stop 0) (sized_by long 48 7) 0

-- **72**, from its second level on: that has f bits, at the bit z; then Q_TEXTCONFIRM 2 (0..2), L_TEXT 8, that many X_TEXT 8
unfoldable pub text_in : ℕ → ℕ → ℕ → ℕ → ℕ → ℕ
text_in e z v f w =
    cond (eqb f 0) 0
    (cond (leb (behind w f 2) 2) (sized_by (z + f + 10 + 8 * behind w (f + 2) 8) e (v + f / 8 + behind w (f + 2) 8)) 0)

unfoldable pub second_level : List ℕ → ℕ → ℕ → ℕ → ℕ → ℕ
second_level s n e v z = if_seen (ahead_at s n 3 z) (λ w. text_in e z v (level_in 5 w) w)

-- from its first level on, L_TEXTDISPLAY 15, T_TEXTDISPLAY 10, M_MODETEXTDISPLAY 4 stand behind that
unfoldable pub first_level : List ℕ → ℕ → ℕ → ℕ → ℕ
first_level s n e y =
    if_seen (ahead_at s n 3 y)
    (λ w. cond (eqb (level_in 5 w) 0) 0 (if_skipped (skip_at n (level_in 5 w + 29) y) (second_level s n e (15 + level_in 5 w / 8))))

-- Q_TEXTCLASS 2 (0..1), Q_TEXTDISPLAY 1, D_TEXTDISPLAY 15, M_MODETEXTDISPLAY 4, M_LEVELTEXTDISPLAY 3 (0..5), NID_STM 8 only if that is 1, ..
unfoldable pub text_at : List ℕ → ℕ → ℕ → ℕ → ℕ → ℕ
text_at s n e x class = cond (leb class 1) (if_skipped (skip_at n 47 x) (first_level s n e)) 0
