-- The table of ways has just what a list of the packets met would have. Assumes nothing.
use Rattle.std.specs.Prelude.{Ok, Err, Result}
use mathlib.Core.Bool.{Bool, true, false, cond, not, ◌&&◌, ◌||◌}
use mathlib.Core.List.{List, [], ◌∷◌}
use mathlib.Core.Option.{none}
use mathlib.Core.Path.{◌≡◌, refl, sym, ap, ◌∙◌}
use Prim.Native.Nat.{ℕ, zero, suc, ◌+◌, ◌≤◌, ◌<◌}
use native.Mathlib.Omega.{arith}
use borrow.Author.Tests.{eqb-true, eqb-false}
use lib.Dec.{eqb}
use lib.ListN.{length, get_or, set, replicate, length-set, length-replicate, get_or-replicate}
use lib.Seq.{get_or-set_same, get_or-set_other}
use Rattle.format.specs.Rules.{Earlier, clash, among, collides_among}
use Rattle.sightings.specs.Sightings.{Glimpse, shared_by, joined_by}
use Rattle.group.specs.Groups.{Member, collision}
use Rattle.group_laws.proofs.Packeting.{AllSmall, numbered}
use Rattle.message.specs.Passing.{hits, noted, passed, table_then, clash_or}

-- ---- ways

-- of one kind: with one packet more, just those that collide with it collide beside the others
ways_joined : (w d e : ℕ) → d ≤ 2 → e ≤ 2 → shared_by (joined_by w e) d ≡ (clash d e || shared_by w d)
unfolding clash
ways_joined w d e h k = by_ways d e h k
  where
    always : (b : Bool) (x y d : ℕ) → shared_by x d ≡ true → shared_by y d ≡ true → shared_by (cond b x y) d ≡ true
    always true x y d i j = i
    always false x y d i j = j

    other_1 : (x y : Bool) → shared_by (cond (x || y) 1 3) 1 ≡ (not x && not y)
    other_1 true y = refl
    other_1 false true = refl
    other_1 false false = refl

    other_2 : (x y : Bool) → shared_by (cond (x || y) 2 3) 0 ≡ (not x && not y)
    other_2 true y = refl
    other_2 false true = refl
    other_2 false false = refl

    by_ways : (d e : ℕ) → d ≤ 2 → e ≤ 2 → shared_by (joined_by w e) d ≡ ((eqb d e || (eqb d 2 || eqb e 2)) || shared_by w d)
    by_ways zero zero h k = always (eqb w 0 || eqb w 1) 1 3 0 refl refl
    by_ways zero (suc zero) h k = other_2 (eqb w 0) (eqb w 2)
    by_ways zero (suc (suc zero)) h k = refl
    by_ways (suc zero) zero h k = other_1 (eqb w 0) (eqb w 1)
    by_ways (suc zero) (suc zero) h k = always (eqb w 0 || eqb w 2) 2 3 1 refl refl
    by_ways (suc zero) (suc (suc zero)) h k = refl
    by_ways (suc (suc zero)) zero h k = always (eqb w 0 || eqb w 1) 1 3 2 refl refl
    by_ways (suc (suc zero)) (suc zero) h k = always (eqb w 0 || eqb w 2) 2 3 2 refl refl
    by_ways (suc (suc zero)) (suc (suc zero)) h k = refl
    by_ways (suc (suc (suc d))) e h k = absurd (omega arith)
    by_ways zero (suc (suc (suc e))) h k = absurd (omega arith)
    by_ways (suc zero) (suc (suc (suc e))) h k = absurd (omega arith)
    by_ways (suc (suc zero)) (suc (suc (suc e))) h k = absurd (omega arith)

-- ---- the table of those that were met

pub record Tabled (met : List Earlier) (table : List ℕ) : Type 0 where
  pub long : length table ≡ 256
  pub same : (i d : ℕ) → i < 256 → d ≤ 2 → shared_by (get_or table i 0) d ≡ among clash i d met

pub tabled_none : Tabled [] (replicate 256 0)
unfolding among
tabled_none = record { long = length-replicate {A = ℕ} 256 0; same = λ i d h k. ap (λ (w : ℕ). shared_by w d) (get_or-replicate {A = ℕ} 256 i 0 0 h) }

pub tabled_one : {met : List Earlier} {table : List ℕ} → Tabled met table → (g : Glimpse) → g.id < 256 → g.dir ≤ 2
    → Tabled (record { id = g.id; dir = g.dir } ∷ met) (noted table g)
unfolding among
tabled_one {met} {table} t g small way =
    record { long = length-set table g.id _ ∙ t.long; same = λ i d h k. by_kind i d h k (eqb i g.id) refl }
  where
    ways : ℕ
    ways = joined_by (get_or table g.id 0) g.dir

    by_kind : (i d : ℕ) → i < 256 → d ≤ 2 → (b : Bool) → eqb i g.id ≡ b → shared_by (get_or (set table g.id ways) i 0) d ≡ (b && clash d g.dir || among clash i d met)
    by_kind i d h k true e =
        let j = eqb-true i g.id e in
        let l = t.long in
        ap (λ (x : ℕ). shared_by (get_or (set table g.id ways) x 0) d) j
        ∙ ap (λ (w : ℕ). shared_by w d) (get_or-set_same table g.id ways 0 (omega arith))
        ∙ ways_joined (get_or table g.id 0) d g.dir k way
        ∙ ap (λ (x : Bool). clash d g.dir || x) (ap (λ (x : ℕ). shared_by (get_or table x 0) d) (sym j) ∙ t.same i d h k)
    by_kind i d h k false e =
        ap (λ (w : ℕ). shared_by w d) (get_or-set_other table g.id i ways 0 (eqb-false i g.id e)) ∙ t.same i d h k

-- ---- one packet after the other

-- those that were met, with these
abbrev pub met_after : List Member → List Earlier → List Earlier
met_after [] met = met
met_after (m ∷ ms) met = met_after ms (record { id = m.id; dir = m.dir } ∷ met)

hits_is : {met : List Earlier} {table : List ℕ} → Tabled met table → (g : Glimpse) → g.id < 256 → g.dir ≤ 2 → hits table g ≡ collides_among clash g.id g.dir met
hits_is t g small way = ap (λ (b : Bool). not (eqb g.id 44) && b) (t.same g.id g.dir small way)

-- the look finds what the definition does, and leaves a table of all that were met
pub record Passing (k i j : ℕ) (gs : List Glimpse) (met : List Earlier) (table : List ℕ) : Type 0 where
  pub finds : passed k j table gs ≡ clash_or (j + length gs) (collision met (numbered k i gs))
  pub leaves : (n : ℕ) → passed k j table gs ≡ Ok n
      → (n ≡ j + length gs) × ((collision met (numbered k i gs) ≡ none) × Tabled (met_after (numbered k i gs) met) (table_then table gs))

pub passing : (k i j : ℕ) (gs : List Glimpse) {met : List Earlier} {table : List ℕ} → AllSmall gs → Tabled met table → Passing k i j gs met table
unfolding collision
passing k i j [] h t =
    let z : j + 0 ≡ j = omega arith in
    record { finds = ap Ok (sym z); leaves = λ n e. (let y : n ≡ j = cc in y ∙ sym z, (refl, t)) }
passing k i j (g ∷ gs) {met} {table} h t =
    by_test (hits table g) refl (collides_among clash g.id g.dir met) refl (passing k (suc i) (suc j) gs h.1 (tabled_one t g h.0.0 h.0.1))
  where
    met' : List Earlier
    met' = record { id = g.id; dir = g.dir } ∷ met

    never : (n : ℕ) → ◌≡◌ {A = Result ℕ (ℕ × ℕ)} (Err (k, g.at)) (Ok n) → ◌≡◌ {A = ℕ} 0 1
    never n q = cc

    more : suc j + length gs ≡ j + suc (length gs)
    more = omega arith

    by_test : (b : Bool) → hits table g ≡ b → (c : Bool) → collides_among clash g.id g.dir met ≡ c → Passing k (suc i) (suc j) gs met' (noted table g) → Passing k i j (g ∷ gs) met table
    by_test true e true f p = record { finds = rw (e, f); leaves = λ n q. let z = never n (rw e at q) in absurd (omega arith) }
    by_test false e false f p =
        record {
          finds = rw (e, f) (p.finds ∙ ap (λ (n : ℕ). clash_or n (collision met' (numbered k (suc i) gs))) more);
          leaves = λ n q. let y = p.leaves n (rw e at q) in rw (e, f) (y.0 ∙ more, y.1);
        }
    by_test true e false f p = let z : true ≡ false = sym e ∙ hits_is t g h.0.0 h.0.1 ∙ f in let y : ◌≡◌ {A = ℕ} 0 1 = cc in absurd (omega arith)
    by_test false e true f p = let z : false ≡ true = sym e ∙ hits_is t g h.0.0 h.0.1 ∙ f in let y : ◌≡◌ {A = ℕ} 0 1 = cc in absurd (omega arith)
