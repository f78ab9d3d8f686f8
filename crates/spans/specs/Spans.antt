-- Whole packets by their kinds: how many values one has that keeps every rule but the tenth, and whether it is in metres or has no scale. Definitions alone.
use Rattle.std.specs.Prelude.{Bool, true, cond, List, ℕ, ◌+◌, ◌*◌, eqb, leb, Some, None, Option}
use Rattle.bits.specs.Ahead.{behind}
use Rattle.bits.specs.Take.{skip_at}
use Rattle.lists.specs.Lists.{links_at, levels_at, choices_at, circuits_at}
use Rattle.wide_lists.specs.WideLists.{speeds_at, positions_at}
use Rattle.bodies.specs.Bodies.{sized_by, radio_at, track_at, restricted_at, stopping_at, text_at}
use Rattle.spans.specs.declared.Span.{Span}
use Rattle.bits.specs.declared.Cursor.{Cursor}

abbrev pub span : ℕ → Bool → Span
span v m = record { values = v; metric = m }

-- 0 for none
abbrev pub or_zero : Option ℕ → ℕ
or_zero (Some v) = v
or_zero None = 0

-- one that has no scale, or is not counted
abbrev pub plain : ℕ → Span
plain v = span v true

-- one with this Q_SCALE (0..2), of which 1 stands for metres
unfoldable pub scaled_by : ℕ → ℕ → Span
scaled_by q v = cond (leb q 2) (span v (eqb q 1)) (plain 0)

-- ---- by the window w at its first bit x: it ends at the bit e, and is so long; n bits are there in all

-- CTCS packets by their NID_XUSER
unfoldable pub user_at : List ℕ → ℕ → ℕ → ℕ → ℕ → ℕ → ℕ → Span
user_at s n e x long w id =
    cond (eqb id 1) (scaled_by (behind w 47 2) (circuits_at s n e x))
    (cond (eqb id 2) (scaled_by (behind w 47 2) (restricted_at s n x long))
    (cond (eqb id 3) (scaled_by (behind w 47 2) (sized_by long 79 9))
    (cond (eqb id 4) (scaled_by (behind w 47 2) (sized_by long 71 9))
    (cond (eqb id 5) (plain (stopping_at long (behind w 47 1))) (plain 0)))))

-- **44**: the CTCS packet has its Q_DIR, and ends where it does
unfoldable pub national_at : List ℕ → ℕ → ℕ → ℕ → ℕ → ℕ → Span
national_at s n e x long w =
    cond (eqb (behind w 32 2) (behind w 8 2))
    (cond (eqb long (behind w 34 13 + 23)) (user_at s n e x long w (behind w 23 9)) (plain 0))
    (plain 0)

-- packets by their NID_PACKET
unfoldable pub kind_at : List ℕ → ℕ → ℕ → ℕ → ℕ → ℕ → ℕ → Span
kind_at s n e x long w id =
    cond (eqb id 5) (scaled_by (behind w 23 2) (links_at s n e x))
    (cond (eqb id 21) (scaled_by (behind w 23 2) (sized_by long (54 + 24 * behind w 49 5) (8 + 3 * behind w 49 5)))
    (cond (eqb id 27) (scaled_by (behind w 23 2) (speeds_at s n e x))
    (cond (eqb id 41) (scaled_by (behind w 23 2) (levels_at s n e x))
    (cond (eqb id 42) (plain (radio_at s n x 48 long 113 8))
    (cond (eqb id 44) (national_at s n e x long w)
    (cond (eqb id 46) (plain (choices_at s n e x))
    (cond (eqb id 68) (scaled_by (behind w 23 2) (track_at s n e x long (behind w 25 1)))
    (cond (eqb id 72) (scaled_by (behind w 23 2) (text_at s n e x (behind w 25 2)))
    (cond (eqb id 79) (scaled_by (behind w 23 2) (positions_at s n e x))
    (cond (eqb id 131) (scaled_by (behind w 23 2) (radio_at s n x 64 long 129 9))
    (cond (eqb id 132) (plain (sized_by long 24 4))
    (cond (eqb id 137) (plain (sized_by long 24 4))
    (cond (eqb id 254) (plain (sized_by long 23 3)) (plain 0))))))))))))))

abbrev pub span_skipped : Option Cursor → (ℕ → Span) → Span
span_skipped (Some c) f = f c.at
span_skipped None f = plain 0

-- its Q_DIR is 0..2, and it ends by the bit n
unfoldable pub packet_at : List ℕ → ℕ → ℕ → ℕ → ℕ → Span
packet_at s n x long w =
    cond (leb n 830)
    (span_skipped (skip_at n long x) (λ e. cond (leb (behind w 8 2) 2) (kind_at s n e x long w (behind w 0 8)) (plain 0)))
    (plain 0)
