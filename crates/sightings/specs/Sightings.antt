-- Packets' heads in bytes, and ways that packets of one kind go. Definitions alone.
use Rattle.std.specs.Prelude.{Bool, true, cond, not, ◌&&◌, ◌||◌, List, [], ◌∷◌, ℕ, zero, suc, ◌+◌, ◌-◌, max, eqb, Some, None, Option}
use Rattle.bits.specs.Take.{taken_at}
use Rattle.states.specs.Lookback.{id_in, dir_in, long_in}
use Rattle.bits.specs.declared.Cursor.{Cursor}

-- the numbers of a head: the next packet begins behind as many bits as L_PACKET says, and behind the head at least
abbrev pub head_of : Option (ℕ × Cursor) → Option (ℕ × ℕ × ℕ)
head_of (Some (a, c)) = Some (id_in a, dir_in a, max (long_in a) 23)
head_of None = None

-- the head of 23 bits at a bit, ending by the bit stop
abbrev pub head_at : List ℕ → ℕ → ℕ → Option (ℕ × ℕ × ℕ)
head_at u stop at = head_of (taken_at u stop 23 at)

-- 0 is no way, 1 that of Q_DIR 0, 2 that of Q_DIR 1, 3 both: a packet with Q_DIR 0 goes one of these unless they are none or just the other, and
-- so does one with Q_DIR 1; one that goes both ways does unless they are none
abbrev pub shared_by : ℕ → ℕ → Bool
shared_by ways dir = not (eqb ways 0) && cond (eqb dir 0) (not (eqb ways 2)) (cond (eqb dir 1) (not (eqb ways 1)) true)

-- "ETCS-44 exempt"
abbrev pub repeats_in : ℕ → ℕ → ℕ → Bool
repeats_in id dir ways = not (eqb id 44) && shared_by ways dir

-- with a single way
abbrev pub besides : ℕ → ℕ → ℕ
besides ways way = cond (eqb ways 0 || eqb ways way) way 3

-- with those of a packet
abbrev pub joined_by : ℕ → ℕ → ℕ
joined_by ways dir = cond (eqb dir 0) (besides ways 1) (cond (eqb dir 1) (besides ways 2) 3)

-- ---- one head after the other

-- a packet that is seen: its NID_PACKET, its Q_DIR, and the bit where that begins
pub record Glimpse : Type 0 where
  pub id : ℕ
  pub dir : ℕ
  pub at : ℕ

-- what there is at a head, and nothing where there is none
abbrev pub on_sight : Option (ℕ × ℕ × ℕ) → (ℕ → ℕ → ℕ → List Glimpse) → List Glimpse
on_sight (Some (i, d, l)) found = found i d l
on_sight None found = []

-- the packets from the bit at on, before the bit stop, one after the other; there are at most k
unfoldable pub glimpsed : ℕ → List ℕ → ℕ → ℕ → List Glimpse
glimpsed zero u stop at = []
glimpsed (suc k) u stop at = on_sight (head_at u stop at) (λ i d l. record { id = i; dir = d; at = at + 8 } ∷ glimpsed k u stop (at + l))

-- those of the n bits of a telegram: behind its header and before its end mark
abbrev pub glimpses : List ℕ → ℕ → List Glimpse
glimpses u n = glimpsed (n - 8) u (n - 8) 50
