-- The telegrams of a group by their N_PIG: one for each, found where it stands; and their counters. Assumes nothing.
use mathlib.Core.Bool.{Bool, true, false, not, ◌&&◌}
use mathlib.Core.List.{List, [], ◌∷◌, ◌++◌}
use mathlib.Core.Path.{◌≡◌, refl, sym, ap, ◌∙◌}
use Prim.Native.Nat.{ℕ, zero, suc, ◌+◌, ◌-◌, ◌≤◌, ◌<◌}
use native.Mathlib.Numerals.{add-one}
use native.Mathlib.Omega.{arith}
use borrow.Author.Tests.{eq-eqb, ne_eqb, eqb-true}
use lib.Dec.{eqb}
use lib.ListN.{length, drop}
use Rattle.format.specs.Fields.{M_DUP, M_MCOUNT}
use Rattle.format.specs.Telegrams.{Entry}
use Rattle.headers.specs.Headers.{number_at, counters_match, latest_of}
use Rattle.seats.specs.Seats.{seat_of, counter_of, dup_of}
use Rattle.seats.specs.declared.Seat.{Seat}
use Rattle.group.specs.Groups.{held, every, pairwise, standing, once, in_order, matches, counted}
use Rattle.group.specs.Walks.{Lineup, Seated, telegrams_of, chief, seated, line_of}
use Rattle.group_laws.proofs.Arrival.{once_at, grouped_once}
use Rattle.group_laws.proofs.Held.{front_held, front_headed}
use Rattle.group_laws.proofs.Seeking.{seat_seated}
use Rattle.group_laws.proofs.Agreeing.{telegrams_count}

abbrev Telegrams : Type 0
Telegrams = List (List Entry)

-- ---- each N_PIG once, from the highest down

module _ (n k c : ℕ) (ts : Telegrams) (h : 0 < k) (e : once n ts ≡ once k ts) (f : c ≡ length (standing (k - 1) ts)) where
  once_turn : once n ts ≡ (eqb c 1 && once (k - 1) ts)
  once_turn = by_number k h e f
    where
      by_number : (j : ℕ) → 0 < j → once n ts ≡ once j ts → c ≡ length (standing (j - 1) ts) → once n ts ≡ (eqb c 1 && once (j - 1) ts)
      by_number zero l d i = absurd (omega arith)
      by_number (suc j) l d i = let q : suc j - 1 ≡ j = omega arith in rw q (d ∙ ap (λ (x : ℕ). eqb x 1 && once j ts) (sym (i ∙ ap (λ (x : ℕ). length (standing x ts)) q)))

  pub once_on : c ≡ 1 → once n ts ≡ once (k - 1) ts
  once_on i = once_turn ∙ rw (eq-eqb c 1 i)

  pub once_fails : (c ≡ 1 → ⊥) → false ≡ once n ts
  once_fails i = sym (once_turn ∙ rw (ne_eqb c 1 i))

-- ---- the one with an N_PIG

one_is : (l : Telegrams) → length l ≡ 1 → l ≡ chief l ∷ []
one_is [] h = absurd (omega arith)
one_is (t ∷ []) h = refl
one_is (t ∷ u ∷ l) h = absurd (omega arith)

module _ {s ns : List ℕ} (l : Lineup s ns) where
  pub line_alone : (k : ℕ) → k < length ns → length (standing k (telegrams_of s ns)) ≡ 1
  line_alone k h =
      let c = telegrams_count l.arrives in
      once_at (length (telegrams_of s ns)) k (telegrams_of s ns) (grouped_once (telegrams_of s ns) l.whole) (omega arith)

  pub line_turn : (k : ℕ) → k < length ns
      → in_order k (length ns - k) (telegrams_of s ns) ≡ seated k (telegrams_of s ns) ∷ in_order (k + 1) (length ns - (k + 1)) (telegrams_of s ns)
  unfolding in_order
  line_turn k h =
      let m : length ns - k ≡ suc (length ns - (k + 1)) = omega arith in
      rw (m, add-one k) (ap (λ (x : Telegrams). x ++ in_order (suc k) (length ns - suc k) (telegrams_of s ns)) (one_is (standing k (telegrams_of s ns)) (line_alone k h)))

  pub line_end : (k : ℕ) → length ns ≤ k → in_order k (length ns - k) (telegrams_of s ns) ≡ []
  unfolding in_order
  line_end k h = let m : length ns - k ≡ 0 = omega arith in rw m

  pub line_first : line_of s ns ≡ in_order 0 (length ns - 0) (telegrams_of s ns)
  line_first = let c = telegrams_count l.arrives in let m : length (telegrams_of s ns) ≡ length ns - 0 = omega arith in rw m

  -- where it stands
  pub line_seat : (k : ℕ) → k < length ns → (r : Seat) → r ≡ seat_of s ns k → Seated s ns k r.start r.n
  line_seat k h r e = rw e (seat_seated k l.arrives (line_alone k h))

module _ {s ns : List ℕ} {k start n : ℕ} (t : Seated s ns k start n) where
  pub seat_is : t.telegram ≡ seated k (telegrams_of s ns)
  seat_is = sym (ap chief t.alone)

  pub seat_count : number_at (drop start s) 58 17 8 ≡ held M_MCOUNT (seated k (telegrams_of s ns))
  seat_count = front_held t.front (front_headed t.front).count (omega arith) ∙ ap (held M_MCOUNT) seat_is

  pub seat_dup : number_at (drop start s) 58 15 2 ≡ held M_DUP (seated k (telegrams_of s ns))
  seat_dup = front_held t.front (front_headed t.front).dup (omega arith) ∙ ap (held M_DUP) seat_is

module _ {s ns : List ℕ} (l : Lineup s ns) (k : ℕ) (h : k < length ns) where
  pub line_counter : counter_of s (seat_of s ns k) ≡ held M_MCOUNT (seated k (telegrams_of s ns))
  line_counter = seat_count (line_seat l k h (seat_of s ns k) refl)

  pub line_dup : dup_of s (seat_of s ns k) ≡ held M_DUP (seated k (telegrams_of s ns))
  line_dup = seat_dup (line_seat l k h (seat_of s ns k) refl)

-- ---- counters, one after the other

abbrev odd : List Entry → Bool
odd t = not (eqb (held M_MCOUNT t) 254)

abbrev meeting : ℕ → List Entry → Bool
meeting a t = counters_match a (held M_MCOUNT t)

abbrev pub counted_from : ℕ → Telegrams → Bool
counted_from a [] = true
counted_from a (t ∷ ts) =
    not (eqb (held M_MCOUNT t) 254) && (counters_match a (held M_MCOUNT t) && counted_from (latest_of a (held M_MCOUNT t)) ts)

every_true : (f : List Entry → Bool) → ((t : List Entry) → f t ≡ true) → (ts : Telegrams) → every f ts ≡ true
every_true f h [] = refl
every_true f h (t ∷ ts) = rw (h t) (every_true f h ts)

-- those that match a counter of 255, and those that match the same twice
tightens : (a c : ℕ) (ts : Telegrams) (p : Bool) → counters_match a c ≡ true
    → (every (meeting (latest_of a c)) ts && p) ≡ (every (meeting a) ts && (every (meeting c) ts && p))
tightens a c ts p h = by_last (eqb c 255) refl
  where
    twice : (x : Bool) → (x && p) ≡ (x && (x && p))
    twice true = refl
    twice false = refl

    by_first : (b : Bool) → eqb c 255 ≡ false → eqb a 255 ≡ b → (every (meeting c) ts && p) ≡ (every (meeting a) ts && (every (meeting c) ts && p))
    by_first true e f = let q : every (meeting a) ts ≡ true = every_true (meeting a) (λ t. rw f) ts in rw q
    by_first false e f =
        let g : eqb a c ≡ true = (rw (f, e) at h) in
        rw (eqb-true a c g) (twice (every (meeting c) ts))

    by_last : (b : Bool) → eqb c 255 ≡ b → (every (meeting (latest_of a c)) ts && p) ≡ (every (meeting a) ts && (every (meeting c) ts && p))
    by_last true e = let q : every (meeting c) ts ≡ true = every_true (meeting c) (λ t. rw e) ts in rw (e, q)
    by_last false e = rw e (by_first (eqb a 255) e refl)

counted_each : (a : ℕ) (ts : Telegrams) → counted_from a ts ≡ (every odd ts && (every (meeting a) ts && pairwise matches ts))
counted_each a [] = refl
counted_each a (t ∷ ts) =
    let c = held M_MCOUNT t in
    ap (λ (x : Bool). odd t && (counters_match a c && x)) (counted_each (latest_of a c) ts)
    ∙ joins (odd t) (counters_match a c) (every odd ts) (every (meeting (latest_of a c)) ts && pairwise matches ts) (every (meeting a) ts) (every (meeting c) ts && pairwise matches ts)
    (tightens a c ts (pairwise matches ts))
  where
    joins : (n m e x y z : Bool) → (m ≡ true → x ≡ (y && z)) → (n && (m && (e && x))) ≡ ((n && e) && ((m && y) && z))
    joins true true e x y z h = ap (λ (b : Bool). e && b) (h refl)
    joins true false true x y z h = refl
    joins true false false x y z h = refl
    joins false m e x y z h = refl

pub counted_is : (ts : Telegrams) → counted ts ≡ counted_from 255 ts
unfolding counted
counted_is ts =
    let q : every (meeting 255) ts ≡ true = every_true (meeting 255) (λ t. refl) ts in
    sym (counted_each 255 ts ∙ rw q)

pub record Counting (s ns : List ℕ) (k seen : ℕ) : Type 0 where
  pub few : k ≤ length ns
  pub same : counted (line_of s ns) ≡ counted_from seen (in_order k (length ns - k) (telegrams_of s ns))

module _ {s ns : List ℕ} (l : Lineup s ns) where
  pub counting_first : Counting s ns 0 255
  counting_first = record { few = omega arith; same = ap counted (line_first l) ∙ counted_is (in_order 0 (length ns - 0) (telegrams_of s ns)) }

  module _ {k seen : ℕ} (g : Counting s ns k seen) (h : k < length ns) (c : ℕ) (e : c ≡ held M_MCOUNT (seated k (telegrams_of s ns))) where
    counted_turn : counted (line_of s ns)
        ≡ (not (eqb c 254) && (counters_match seen c && counted_from (latest_of seen c) (in_order (k + 1) (length ns - (k + 1)) (telegrams_of s ns))))
    counted_turn = g.same ∙ ap (counted_from seen) (line_turn l k h) ∙ rw (← e)

    pub counting_never : c ≡ 254 → false ≡ counted (line_of s ns)
    counting_never i = sym (counted_turn ∙ rw (eq-eqb c 254 i))

    pub counting_apart : (c ≡ 254 → ⊥) → counters_match seen c ≡ false → false ≡ counted (line_of s ns)
    counting_apart i j = sym (counted_turn ∙ rw (ne_eqb c 254 i, j))

    pub counting_on : (c ≡ 254 → ⊥) → counters_match seen c ≡ true → (x : ℕ) → x ≡ latest_of seen c → Counting s ns (k + 1) x
    counting_on i j x f = record { few = omega arith; same = counted_turn ∙ rw (ne_eqb c 254 i, j, f) }

  pub counting_end : {k seen : ℕ} → Counting s ns k seen → length ns ≤ k → true ≡ counted (line_of s ns)
  counting_end {k} {seen} g h = sym (g.same ∙ ap (counted_from seen) (line_end l k h))
