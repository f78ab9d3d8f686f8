-- Lists: "A list is N_ITER 5 and that many further groups (k)". How many values a packet has that ends in one. Definitions alone.
use Rattle.std.specs.Prelude.{cond, List, ℕ, zero, suc, ◌+◌, ◌*◌, ◌≤◌, eqb, leb, Some, None, Option}
use Rattle.bits.specs.Ahead.{behind, ahead_at}
use Rattle.bits.specs.Take.{taken_at, skip_at}
use Rattle.hops.specs.Hops.{none, link_in, transition_in, choice_in, condition_in, circuit_in}
use Rattle.hops.specs.declared.Hop.{Hop}
use Rattle.bits.specs.declared.Cursor.{Cursor}

-- ---- where there is something to go by

abbrev pub if_skipped : Option Cursor → (ℕ → ℕ) → ℕ
if_skipped (Some c) f = f c.at
if_skipped None f = 0

abbrev pub if_taken : Option (ℕ × Cursor) → (ℕ → ℕ → ℕ) → ℕ
if_taken (Some (v, c)) f = f v c.at
if_taken None f = 0

abbrev pub if_seen : Option (ℕ × Cursor) → (ℕ → ℕ) → ℕ
if_seen (Some (w, c)) f = f w
if_seen None f = 0

abbrev pub hop_seen : Option (ℕ × Cursor) → (ℕ → Hop) → Hop
hop_seen (Some (w, c)) f = f w
hop_seen None f = none

-- ---- groups

-- the group at the bit x, which has so many bits at least, by the window there
unfoldable pub group_at : List ℕ → ℕ → ℕ → (ℕ → Hop) → ℕ → Hop
group_at s n least f x = hop_seen (ahead_at s n least x) f

-- So many groups from the bit x on, with so many values before them: how many values there are in all, where each group keeps its rules and they end at the bit
-- e; and else 0.
unfoldable pub others_at : (ℕ → Hop) → ℕ → ℕ → ℕ → ℕ → ℕ
others_at g e zero x v = cond (eqb x e) v 0
others_at g e (suc k) x v = cond (eqb (g x).bits 0) 0 (others_at g e k (x + (g x).bits) (v + (g x).values))

-- where they are gone over: no number there grows too large for the code
abbrev pub Bounded : ℕ → ℕ → ℕ → ℕ → Type 0
Bounded n x left v = (n ≤ 830) × (x ≤ 1204) × (v + 66 * left ≤ 3000)

-- ---- a list: a group, N_ITER, and as many groups more

-- the first group is h, at the bit x, and N_ITER behind it is k
abbrev pub behind_first : (ℕ → Hop) → ℕ → ℕ → ℕ → Hop → ℕ → ℕ
behind_first g e v x h k = cond (eqb h.bits 0) 0 (others_at g e k (x + h.bits + 5) (v + h.values + 1))

-- in one window
unfoldable pub list_at : List ℕ → ℕ → ℕ → (ℕ → Hop) → ℕ → ℕ → ℕ → ℕ
list_at s n least f e v x =
    if_seen (ahead_at s n (least + 5) x) (λ w. behind_first (group_at s n least f) e v x (f w) (behind w (f w).bits 5))

-- N_ITER taken by itself
unfoldable pub apart_at : (ℕ → Hop) → List ℕ → ℕ → ℕ → ℕ → ℕ → ℕ
apart_at g s n e v x =
    cond (eqb (g x).bits 0) 0 (if_taken (taken_at s n 5 (x + (g x).bits)) (λ k y. others_at g e k y (v + (g x).values + 1)))

-- ---- packets, from the bit x to the bit e: so many bits and values stand before the list

abbrev pub packet_list : ℕ → ℕ → (ℕ → ℕ) → ℕ → ℕ
packet_list n head list x = cond (leb n 830) (if_skipped (skip_at n head x) list) 0

unfoldable pub links_at : List ℕ → ℕ → ℕ → ℕ → ℕ
links_at s n e = packet_list n 25 (list_at s n 39 link_in e 4)

unfoldable pub levels_at : List ℕ → ℕ → ℕ → ℕ → ℕ
levels_at s n e = packet_list n 40 (list_at s n 18 transition_in e 5)

unfoldable pub choices_at : List ℕ → ℕ → ℕ → ℕ → ℕ
choices_at s n e = packet_list n 23 (list_at s n 3 choice_in e 3)

unfoldable pub conditions_at : List ℕ → ℕ → ℕ → ℕ → ℕ
conditions_at s n e = packet_list n 26 (list_at s n 34 condition_in e 5)

unfoldable pub circuits_at : List ℕ → ℕ → ℕ → ℕ → ℕ
circuits_at s n e = packet_list n 64 (list_at s n 24 circuit_in e 8)
