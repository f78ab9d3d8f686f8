-- An identifier that is none of the tables' has no packet, no row and no head. Assumes nothing.
use mathlib.Core.Path.{◌≡◌, refl, sym, ap₂}
use mathlib.Core.List.{List, [], ◌∷◌}
use Prim.Native.Nat.{ℕ, ◌+◌}
use borrow.Author.Tests.{ne_eqb}
use lib.ListN.{length}
use Rattle.format.specs.Packets.{Packet, etcs, ctcs}
use Rattle.format.specs.Table.{rows_of, start_of, packet_starts, etcs_row, ctcs_row, etcs_from, ctcs_from}
use Rattle.format.specs.Kinds.{head_of, starts_at, etcs_start, ctcs_start}

-- none of the packets has the identifier
abbrev pub Absent : ℕ → List Packet → Type 0
Absent v [] = Unit
Absent v (p ∷ ps) = (v ≡ p.id → ⊥) × Absent v ps

-- the same, after A, in the order in which a `match` leaves it
abbrev pub AbsentAfter : Type 0 → ℕ → List Packet → Type 0
AbsentAfter A v [] = A
AbsentAfter A v (p ∷ ps) = AbsentAfter (A × (v ≡ p.id → ⊥)) v ps

after : (A : Type 0) (v : ℕ) (ps : List Packet) → AbsentAfter A v ps → A × Absent v ps
after A v [] h = (h, tt)
after A v (p ∷ ps) h =
    let r = after (A × (v ≡ p.id → ⊥)) v ps h in (r.0.0, (r.0.1, r.1))

row_none : (v i : ℕ) (ps : List Packet) → Absent v ps → start_of v (packet_starts i ps) ≡ 0
unfolding start_of packet_starts
row_none v i [] h = refl
row_none v i (p ∷ ps) h = rw (ne_eqb v p.id h.0) (row_none v (i + length (rows_of i 0 p.items)) ps h.1)

head_none : (w v : ℕ) (ps : List Packet) → Absent v ps → head_of w v ps ≡ 0
unfolding head_of
head_none w v [] h = refl
head_none w v (p ∷ ps) h = rw (ne_eqb v p.id h.0) (head_none w v ps h.1)

pub etcs_none : (v : ℕ) → AbsentAfter Unit v etcs → starts_at 0 0 ≡ etcs_start v
unfolding etcs_start etcs_row
etcs_none v h =
    let a = (after Unit v etcs h).1 in sym (ap₂ starts_at (row_none v etcs_from etcs a) (head_none 8 v etcs a))

pub ctcs_none : (v : ℕ) → AbsentAfter Unit v ctcs → starts_at 0 0 ≡ ctcs_start v
unfolding ctcs_start ctcs_row
ctcs_none v h =
    let a = (after Unit v ctcs h).1 in sym (ap₂ starts_at (row_none v ctcs_from ctcs a) (head_none 9 v ctcs a))
