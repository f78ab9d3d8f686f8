-- Telegrams one behind the other, looked for by their N_PIG. Definitions alone.
use Rattle.std.specs.Prelude.{Bool, cond, not, ◌&&◌, ◌||◌, List, [], ◌∷◌, ℕ, ◌+◌, min, eqb, length, drop}
use Rattle.bits.specs.Bits.{bytes_for}
use Rattle.headers.specs.Headers.{number_at, same_bodies}
use Rattle.seats.specs.declared.Seat.{Seat}
use Rattle.seats.specs.declared.Balise.{Balise}

-- the N_PIG of the telegram in front of these bytes: 3 bits from bit 9 on
abbrev pub pig_of : List ℕ → ℕ
pig_of u = number_at u 58 9 3

-- how many have this N_PIG, each of them in its ceil(n / 8) bytes
unfoldable pub tallied : ℕ → List ℕ → List ℕ → ℕ
tallied k u [] = 0
tallied k u (n ∷ ns) = cond (eqb (pig_of u) k) 1 0 + tallied k (drop (bytes_for n) u) ns

-- where the first of them stands, if the first of all stands at the byte start
unfoldable pub seat_from : ℕ → ℕ → List ℕ → List ℕ → Seat
seat_from k start u [] = record { start = 0; n = 0 }
seat_from k start u (n ∷ ns) =
    cond (eqb (pig_of u) k)
    (record { start = start; n = n })
    (seat_from k (start + min (bytes_for n) (length u)) (drop (bytes_for n) u) ns)

abbrev pub seat_of : List ℕ → List ℕ → ℕ → Seat
seat_of s ns k = seat_from k 0 s ns

-- of the telegram at a seat: its M_DUP, 2 bits from bit 15 on, its M_MCOUNT, 8 bits from bit 17 on, and whether what follows its header is the same as
-- at another seat
abbrev pub dup_of : List ℕ → Seat → ℕ
dup_of s t = number_at (drop t.start s) 58 15 2

abbrev pub counter_of : List ℕ → Seat → ℕ
counter_of s t = number_at (drop t.start s) 58 17 8

abbrev pub same_packets : List ℕ → Seat → Seat → Bool
same_packets s a b = same_bodies (drop a.start s) a.n (drop b.start s) b.n

-- the balise with the N_PIG k is linked to the one before it: that one's M_DUP names the next, or its own the previous
abbrev pub linked_by : ℕ → ℕ → ℕ → Bool
linked_by k before dup = not (eqb k 0) && (eqb before 1 || eqb dup 2)

abbrev pub balise_of : List ℕ → Seat → ℕ → ℕ → Balise
balise_of s t k before = record { seat = t; dup = dup_of s t; counts = not (linked_by k before (dup_of s t)) }
