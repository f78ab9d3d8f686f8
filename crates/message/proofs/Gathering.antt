-- The balises of a group one after the other: what their packets, as they are seen in the buffer, have to do with the definition's list. Assumes nothing.
use mathlib.Core.Bool.{Bool, true, false, cond, not}
use mathlib.Core.List.{List, [], ◌∷◌, ◌++◌}
use mathlib.Core.Option.{Option, some, none}
use mathlib.Core.Path.{◌≡◌, refl, sym, ap, ap₂, ◌∙◌}
use Prim.Native.Nat.{ℕ, suc, ◌+◌, ◌-◌, ◌≤◌, ◌<◌}
use native.Mathlib.Numerals.{add-one}
use native.Mathlib.Omega.{arith}
use borrow.Author.Tests.{ne_eqb}
use lib.Dec.{eqb}
use lib.ListN.{length, drop}
use Rattle.format.specs.Fields.{M_DUP}
use Rattle.format.specs.Telegrams.{Entry}
use Rattle.seats.specs.Seats.{seat_of, dup_of, linked_by, balise_of}
use Rattle.seats.specs.declared.Balise as seats
use Rattle.sightings.specs.Sightings.{Glimpse, glimpses}
use Rattle.group.specs.Groups.{Member, held, linked, counting, listed, packets_of, in_order}
use Rattle.group.specs.Walks.{Lineup, Seated, telegrams_of, seated, preceding, packets_of_all}
use Rattle.group_laws.proofs.Held.{front_size}
use Rattle.group_laws.proofs.Lining.{line_turn, line_end, line_first, line_seat, line_dup, seat_is}
use Rattle.group_laws.proofs.Enough.{front_most}
use Rattle.group_laws.proofs.Packeting.{AllSmall, numbered, seen_packets, seen_small}
use Rattle.message.specs.Passing.{counted, dup_before, sights_of}

-- the packets that are listed from the balise with this N_PIG on
abbrev pub rest_from : List ℕ → List ℕ → ℕ → List Member
rest_from s ns k = listed (counting k (preceding k (telegrams_of s ns)) (in_order k (length ns - k) (telegrams_of s ns)))

pub length_numbered : (k j : ℕ) (gs : List Glimpse) → length (numbered k j gs) ≡ length gs
length_numbered k j [] = refl
length_numbered k j (g ∷ gs) = ap suc (length_numbered k (suc j) gs)

linked_is : (k : ℕ) (ts : List (List Entry)) (before dup : ℕ) → before ≡ cond (eqb k 0) 0 (held M_DUP (seated (k - 1) ts)) → dup ≡ held M_DUP (seated k ts)
    → linked_by k before dup ≡ linked (preceding k ts) (seated k ts)
linked_is k ts before dup h e = by_first (eqb k 0) refl
  where
    by_first : (b : Bool) → eqb k 0 ≡ b → linked_by k before dup ≡ linked (preceding k ts) (seated k ts)
    by_first true i = rw i
    by_first false i = let j : before ≡ held M_DUP (seated (k - 1) ts) = h ∙ rw i in rw (i, j, e)

module _ {s ns : List ℕ} (l : Lineup s ns) where
  abbrev ts : List (List Entry)
  ts = telegrams_of s ns

  pub rest_first : packets_of_all s ns ≡ rest_from s ns 0
  rest_first = ap (λ (x : List (List Entry)). listed (counting 0 none x)) (line_first l)

  pub rest_end : (k : ℕ) → length ns ≤ k → rest_from s ns k ≡ []
  unfolding counting
  rest_end k h = ap (λ (x : List (List Entry)). listed (counting k (preceding k ts) x)) (line_end l k h)

  module _ (k : ℕ) (h : k < length ns) (before : ℕ) (d : before ≡ dup_before s ns k) (b : seats.Balise) (e : b ≡ balise_of s (seat_of s ns k) k before) where
    seat : Seated s ns k b.seat.start b.seat.n
    seat = line_seat l k h b.seat (ap (λ (x : seats.Balise). x.seat) e)

    dup_is : b.dup ≡ held M_DUP (seated k ts)
    dup_is = ap (λ (x : seats.Balise). x.dup) e ∙ line_dup l k h

    counts_is : b.counts ≡ not (linked (preceding k ts) (seated k ts))
    counts_is = ap (λ (x : seats.Balise). x.counts) e ∙ ap not (linked_is k ts before (dup_of s (seat_of s ns k)) d (line_dup l k h))

    pub size_is : (58 ≤ b.seat.n) × (b.seat.n ≤ 830)
    size_is = front_size seat.front

    abbrev pub sights : List Glimpse
    sights = counted b.counts (glimpses (drop b.seat.start s) b.seat.n)

    pub sights_are : sights ≡ sights_of s ns k
    sights_are =
        let q = e ∙ ap (balise_of s (seat_of s ns k) k) d in
        ap (λ (x : seats.Balise). counted x.counts (glimpses (drop x.seat.start s) x.seat.n)) q

    pub sights_small : AllSmall sights
    sights_small = by_counts b.counts
      where
        by_counts : (c : Bool) → AllSmall (counted c (glimpses (drop b.seat.start s) b.seat.n))
        by_counts true = seen_small seat.front
        by_counts false = tt

    pub sights_few : length sights ≤ 33
    sights_few = by_counts b.counts
      where
        by_counts : (c : Bool) → length (counted c (glimpses (drop b.seat.start s) b.seat.n)) ≤ 33
        by_counts true =
            let m = front_most seat.front k in
            let n = length_numbered k 0 (glimpses (drop b.seat.start s) b.seat.n) in
            let p = ap length (seen_packets seat.front k) in
            omega arith
        by_counts false = omega arith

    seen_here : numbered k 0 (glimpses (drop b.seat.start s) b.seat.n) ≡ packets_of (record { pig = k; telegram = seated k ts })
    seen_here = seen_packets seat.front k ∙ ap (λ (t : List Entry). packets_of (record { pig = k; telegram = t })) (seat_is seat)

    next_before : preceding (k + 1) ts ≡ some (seated k ts)
    next_before =
        let n : eqb (k + 1) 0 ≡ false = ne_eqb (k + 1) 0 (λ i. omega arith) in
        let m : k + 1 - 1 ≡ k = omega arith in
        rw (n, m)

    pub dup_next : b.dup ≡ dup_before s ns (k + 1)
    dup_next =
        let n : eqb (k + 1) 0 ≡ false = ne_eqb (k + 1) 0 (λ i. omega arith) in
        let m : k + 1 - 1 ≡ k = omega arith in
        dup_is ∙ rw (n, m)

    -- this balise's packets, if it counts, and those of the others
    pub rest_turn : rest_from s ns k ≡ numbered k 0 sights ++ rest_from s ns (k + 1)
    unfolding counting
    rest_turn =
        ap (λ (x : List (List Entry)). listed (counting k (preceding k ts) x)) (line_turn l k h)
        ∙ by_link (linked (preceding k ts) (seated k ts)) b.counts counts_is
        ∙ ap₂ (λ (o : Option (List Entry)) (i : ℕ). numbered k 0 sights ++ listed (counting i o (in_order (k + 1) (length ns - (k + 1)) ts))) (sym next_before) (sym (add-one k))
      where
        others : List Member
        others = listed (counting (suc k) (some (seated k ts)) (in_order (k + 1) (length ns - (k + 1)) ts))

        by_link : (x c : Bool) → c ≡ not x
            → listed (cond x (counting (suc k) (some (seated k ts)) (in_order (k + 1) (length ns - (k + 1)) ts)) (record { pig = k; telegram = seated k ts } ∷ counting (suc k) (some (seated k ts)) (in_order (k + 1) (length ns - (k + 1)) ts)))
            ≡ numbered k 0 (counted c (glimpses (drop b.seat.start s) b.seat.n)) ++ others
        by_link true c i = rw i
        by_link false c i = rw i (ap (λ (x : List Member). x ++ others) (sym seen_here))

-- the same of each balise by itself
module _ {s ns : List ℕ} (l : Lineup s ns) (k : ℕ) (h : k < length ns) where
  pub rest_here : rest_from s ns k ≡ numbered k 0 (sights_of s ns k) ++ rest_from s ns (k + 1)
  rest_here = rest_turn l k h (dup_before s ns k) refl (balise_of s (seat_of s ns k) k (dup_before s ns k)) refl

  pub few_here : length (sights_of s ns k) ≤ 33
  few_here = sights_few l k h (dup_before s ns k) refl (balise_of s (seat_of s ns k) k (dup_before s ns k)) refl
