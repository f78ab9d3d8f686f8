-- The loop over the balises that looks for packets that collide. Assumes nothing.
use Rattle.std.specs.Prelude.{Ok, Err, Result, ℕ, ⊤}
use mathlib.Core.Bool.{Bool, true, false, cond}
use mathlib.Core.List.{List, [], ◌∷◌, ◌++◌}
use mathlib.Core.Option.{Option, some, none}
use mathlib.Core.Path.{◌≡◌, refl, sym, ap, ◌∙◌}
use Prim.Native.Nat.{ℕ, ◌+◌, ◌≤◌, ◌<◌}
use native.Mathlib.Omega.{arith}
use borrow.Author.Tests.{eqb-true, eqb-false}
use lib.Dec.{eqb}
use lib.ListN.{length, drop, get_or, set, replicate, length-set, length-replicate}
use lib.Seq.{get_or-set_same, get_or-set_other}
use Rattle.format.specs.Rules.{Earlier, clash, collides_among}
use Rattle.seats.specs.Seats.{seat_of, balise_of}
use Rattle.seats.specs.declared.Balise as seats
use Rattle.sightings.specs.Sightings.{Glimpse, glimpses}
use Rattle.group.specs.Groups.{Member, collision}
use Rattle.group.specs.Walks.{Lineup, packets_of_all, telegrams_of}
use Rattle.group_laws.proofs.Agreeing.{telegrams_count}
use Rattle.group_laws.proofs.Enough.{grouped_few}
use Rattle.group_laws.proofs.Packeting.{numbered}
use Rattle.message.specs.Passing.{counted, hits, noted, table_then, Passes, clash_of, clash_or, dup_before, sights_of, Collided}
use Rattle.message.proofs.Tables.{Tabled, tabled_none, met_after, Passing, passing}
use Rattle.message.proofs.Gathering.{rest_from, rest_first, rest_end, rest_turn, dup_next, size_is, sights_are, sights_small}

-- what two equal collisions hold is equal
pub held : {A : Type 0} (x y : ℕ × ℕ) → ◌≡◌ {A = Result A (ℕ × ℕ)} (Err x) (Err y) → x ≡ y
held x y e = cc

abbrev or_else : Option Member → Option Member → Option Member
or_else none o = o
or_else (some m) o = some m

-- of packets one behind the other, the first that collides
collision_append : (met : List Earlier) (xs ys : List Member) → collision met (xs ++ ys) ≡ or_else (collision met xs) (collision (met_after xs met) ys)
unfolding collision
collision_append met [] ys = refl
collision_append met (x ∷ xs) ys = by_test (collides_among clash x.id x.dir met) (collision_append (record { id = x.id; dir = x.dir } ∷ met) xs ys)
  where
    met' : List Earlier
    met' = record { id = x.id; dir = x.dir } ∷ met

    by_test : (b : Bool) → collision met' (xs ++ ys) ≡ or_else (collision met' xs) (collision (met_after xs met') ys)
        → cond b (some x) (collision met' (xs ++ ys)) ≡ or_else (cond b (some x) (collision met' xs)) (collision (met_after xs met') ys)
    by_test true i = refl
    by_test false i = i

length_then : (table : List ℕ) (gs : List Glimpse) → length (table_then table gs) ≡ length table
length_then table [] = refl
length_then table (g ∷ gs) = by_test (hits table g) (length_then (noted table g) gs)
  where
    by_test : (b : Bool) → length (table_then (noted table g) gs) ≡ length (noted table g) → length (cond b table (table_then (noted table g) gs)) ≡ length table
    by_test true i = refl
    by_test false i = i ∙ length-set table g.id _

-- no packet of the balises below k collides, the table has them all, and the counts of each
pub record Gathering (s ns : List ℕ) (k before : ℕ) (table counts : List ℕ) : Type 0 where
  pub few : k ≤ length ns
  pub dup : before ≡ dup_before s ns k
  pub met : List Earlier
  pub tabled : Tabled met table
  pub same : collision [] (packets_of_all s ns) ≡ collision met (rest_from s ns k)
  pub wide : length counts ≡ 8
  pub each : (j : ℕ) → j < k → get_or counts j 0 ≡ length (sights_of s ns j)

module _ {s ns : List ℕ} (l : Lineup s ns) where
  pub line_few : length ns ≤ 8
  line_few = let c = telegrams_count l.arrives in let f = grouped_few (telegrams_of s ns) l.whole in omega arith

  pub gathering_first : (table counts : List ℕ) → table ≡ replicate 256 0 → length counts ≡ 8 → Gathering s ns 0 0 table counts
  gathering_first table counts e w = record {
    few = omega arith;
    dup = refl;
    met = [];
    tabled = rw e tabled_none;
    same = ap (collision []) (rest_first l);
    wide = w;
    each = λ j h. absurd (omega arith);
  }

  pub gathering_end : {k before : ℕ} {table counts : List ℕ} → Gathering s ns k before table counts → length ns ≤ k → Collided s ns (Ok tt) counts
  unfolding collision
  gathering_end {k} g h = record {
    answer = sym (ap clash_of (g.same ∙ ap (collision g.met) (rest_end l k h)));
    each = λ e. record { wide = g.wide; of = λ j i. g.each j (omega arith) };
  }

  module _ {k before : ℕ} {table counts : List ℕ} (g : Gathering s ns k before table counts) (h : k < length ns) (b : seats.Balise) (e : b ≡ balise_of s (seat_of s ns k) k before) where
    abbrev gs : List Glimpse
    gs = counted b.counts (glimpses (drop b.seat.start s) b.seat.n)

    pub pass_room : (length table ≡ 256) × ((8 ≤ b.seat.n) × (b.seat.n ≤ 830))
    pass_room = let z = size_is l k h before g.dup b e in (g.tabled.long, (omega (arith, z.0), z.1))

    passes : Passing k 0 0 gs g.met table
    passes = passing k 0 0 gs (sights_small l k h before g.dup b e) g.tabled

    turned : collision [] (packets_of_all s ns) ≡ or_else (collision g.met (numbered k 0 gs)) (collision (met_after (numbered k 0 gs) g.met) (rest_from s ns (k + 1)))
    turned = g.same ∙ ap (collision g.met) (rest_turn l k h before g.dup b e) ∙ collision_append g.met (numbered k 0 gs) (rest_from s ns (k + 1))

    module _ {r : Result ℕ (ℕ × ℕ)} {table' : List ℕ} (p : Passes k gs table r table') where
      pub gathering_long : (empty : List ℕ) → empty ≡ replicate 256 0 → length table' ≡ length empty
      gathering_long empty q = ap length p.contents ∙ length_then table gs ∙ g.tabled.long ∙ sym (ap length q ∙ length-replicate {A = ℕ} 256 0)

      pub gathering_hit : (w a : ℕ) → r ≡ Err (w, a) → Collided s ns (Err (w, a)) counts
      gathering_hit w a q = record { answer = by_way (collision g.met (numbered k 0 gs)) refl; each = λ f. absurd (neither f) }
        where
          neither : ◌≡◌ {A = Result ⊤ (ℕ × ℕ)} (Err (w, a)) (Ok tt) → ⊥
          neither f = let z : ◌≡◌ {A = ℕ} 0 1 = cc in omega arith

          never : (n : ℕ) → ◌≡◌ {A = Result ℕ (ℕ × ℕ)} (Err (w, a)) (Ok n) → ⊥
          never n f = let z : ◌≡◌ {A = ℕ} 0 1 = cc in omega arith

          by_way : (o : Option Member) → collision g.met (numbered k 0 gs) ≡ o → Err (w, a) ≡ clash_of (collision [] (packets_of_all s ns))
          by_way none f = absurd (never (0 + length gs) (sym q ∙ p.answer ∙ passes.finds ∙ ap (clash_or (0 + length gs)) f))
          by_way (some m) f =
              ap Err (held (w, a) (m.pig, m.at) (sym q ∙ p.answer ∙ passes.finds ∙ ap (clash_or (0 + length gs)) f))
              ∙ sym (ap clash_of (turned ∙ ap (λ (o : Option Member). or_else o (collision (met_after (numbered k 0 gs) g.met) (rest_from s ns (k + 1)))) f))

      pub gathering_on : (c : ℕ) → r ≡ Ok c → Gathering s ns (k + 1) b.dup table' (set counts k c)
      gathering_on c q =
          let y = passes.leaves c (sym p.answer ∙ q) in
          let w = line_few in
          let n : c ≡ length (sights_of s ns k) = y.0 ∙ (let z : 0 + length gs ≡ length gs = omega arith in z) ∙ ap length (sights_are l k h before g.dup b e) in
          record {
            few = omega arith;
            dup = dup_next l k h before g.dup b e;
            met = met_after (numbered k 0 gs) g.met;
            tabled = rw p.contents y.1.1;
            same = turned ∙ rw y.1.0;
            wide = length-set counts k c ∙ g.wide;
            each = λ j i. by_place j i n (eqb j k) refl;
          }
        where
          by_place : (j : ℕ) → j < k + 1 → c ≡ length (sights_of s ns k) → (t : Bool) → eqb j k ≡ t → get_or (set counts k c) j 0 ≡ length (sights_of s ns j)
          by_place j i n true f =
              let x = eqb-true j k f in
              let w = g.wide in
              let m = line_few in
              ap (λ (v : ℕ). get_or (set counts k c) v 0) x ∙ get_or-set_same counts k c 0 (omega arith) ∙ n ∙ ap (λ (v : ℕ). length (sights_of s ns v)) (sym x)
          by_place j i n false f = let x = eqb-false j k f in get_or-set_other counts k j c 0 x ∙ g.each j (omega (arith, x))
