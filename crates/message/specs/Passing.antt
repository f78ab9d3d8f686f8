-- The packets of a group one after the other: first a look whether they collide, then each is put where it belongs. Definitions alone.
use Rattle.std.specs.Prelude.{Bool, true, false, cond, List, [], ◌∷◌, map, ◌≡◌, ℕ, zero, suc, ◌+◌, ◌-◌, ◌≤◌, ◌<◌, eqb, length, drop, get_or, set, replicate, Ok, Err, Result, ⊤}
use Rattle.std.proofs.Math.Option.{Option, some, none}
use Rattle.std.proofs.lemmas.List.Edits.{sets}
use Rattle.format.specs.Fields.{M_DUP}
use Rattle.seats.specs.Seats.{seat_of, balise_of}
use Rattle.sightings.specs.Sightings.{Glimpse, glimpses, repeats_in, joined_by}
use Rattle.group.specs.Groups.{Member, held, collision}
use Rattle.group.specs.Walks.{telegrams_of, seated, packets_of_all}

-- the packets of a balise, if it counts
abbrev pub counted : Bool → List Glimpse → List Glimpse
counted true gs = gs
counted false gs = []

-- ---- a look

-- the table has for each NID_PACKET the ways that packets of this kind go
abbrev pub hits : List ℕ → Glimpse → Bool
hits table g = repeats_in g.id g.dir (get_or table g.id 0)

abbrev pub noted : List ℕ → Glimpse → List ℕ
noted table g = set table g.id (joined_by (get_or table g.id 0) g.dir)

-- the first of a balise's packets that collides; or how many there are, of which j were met
abbrev pub passed : ℕ → ℕ → List ℕ → List Glimpse → Result ℕ (ℕ × ℕ)
passed k j table [] = Ok j
passed k j table (g ∷ gs) = cond (hits table g) (Err (k, g.at)) (passed k (suc j) (noted table g) gs)

-- the table behind those that do not
abbrev pub table_then : List ℕ → List Glimpse → List ℕ
table_then table [] = table
table_then table (g ∷ gs) = cond (hits table g) table (table_then (noted table g) gs)

pub record Passes (k : ℕ) (gs : List Glimpse) (table : List ℕ) (r : Result ℕ (ℕ × ℕ)) (table' : List ℕ) : Type 0 where
  pub answer : r ≡ passed k 0 table gs
  pub contents : table' ≡ table_then table gs

-- the first of all
abbrev pub clash_of : Option Member → Result ⊤ (ℕ × ℕ)
clash_of none = Ok tt
clash_of (some m) = Err (m.pig, m.at)

-- the first of all, or so many
abbrev pub clash_or : ℕ → Option Member → Result ℕ (ℕ × ℕ)
clash_or n none = Ok n
clash_or n (some m) = Err (m.pig, m.at)

-- the M_DUP of the balise before the one with this N_PIG
abbrev pub dup_before : List ℕ → List ℕ → ℕ → ℕ
dup_before s ns k = cond (eqb k 0) 0 (held M_DUP (seated (k - 1) (telegrams_of s ns)))

-- the packets of the balise with this N_PIG, as they are seen in the buffer, if it counts
abbrev pub sights_of : List ℕ → List ℕ → ℕ → List Glimpse
sights_of s ns k =
    let b = balise_of s (seat_of s ns k) k (dup_before s ns k) in counted b.counts (glimpses (drop b.seat.start s) b.seat.n)

-- how many they are, for each of at most 8
pub record Counts (s ns counts : List ℕ) : Type 0 where
  pub wide : length counts ≡ 8
  pub of : (k : ℕ) → k < length ns → get_or counts k 0 ≡ length (sights_of s ns k)

pub record Collided (s ns : List ℕ) (r : Result ⊤ (ℕ × ℕ)) (counts : List ℕ) : Type 0 where
  pub answer : r ≡ clash_of (collision [] (packets_of_all s ns))
  pub each : r ≡ Ok tt → Counts s ns counts

-- ---- into the runs

-- numbers from j on, so many
abbrev pub count_from : ℕ → ℕ → List ℕ
count_from j zero = []
count_from j (suc n) = j ∷ count_from (suc j) n

-- there is room for so many from i on, and a byte holds their numbers
pub record Roomy (n i : ℕ) (pigs numbers : List ℕ) : Type 0 where
  pub few : n ≤ 255
  pub pigs_left : i + n ≤ length pigs
  pub numbers_left : i + n ≤ length numbers

-- those of one balise, from i on
pub record Lays (k i n : ℕ) (pigs numbers : List ℕ) (r : ℕ) (pigs' numbers' : List ℕ) : Type 0 where
  pub answer : r ≡ i + n
  pub pigs_then : pigs' ≡ sets pigs i (replicate n k)
  pub numbers_then : numbers' ≡ sets numbers i (count_from 0 n)

-- all of them
pub record Stores (ms : List Member) (pigs numbers : List ℕ) (r : ℕ) (pigs' numbers' : List ℕ) : Type 0 where
  pub answer : r ≡ length ms
  pub pigs_then : pigs' ≡ sets pigs 0 (map (λ m. m.pig) ms)
  pub numbers_then : numbers' ≡ sets numbers 0 (map (λ m. m.number) ms)
