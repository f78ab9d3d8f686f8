-- The loop over the balises that puts their packets into the runs, so many of each. Assumes nothing.
use mathlib.Core.List.{List, [], ◌∷◌, ◌++◌, map}
use mathlib.Core.Path.{◌≡◌, refl, sym, ap, ◌∙◌}
use Prim.Native.Nat.{ℕ, suc, ◌+◌, ◌≤◌, ◌<◌}
use native.Mathlib.Omega.{arith}
use lib.ListN.{length, set, replicate, length-append}
use lib.Seq.{sets, length-sets}
use Rattle.sightings.specs.Sightings.{Glimpse}
use Rattle.group.specs.Groups.{Member}
use Rattle.group.specs.Walks.{Lineup, packets_of_all}
use Rattle.group_laws.proofs.Packeting.{numbered}
use Rattle.group_laws.proofs.Enough.{lineup_most}
use Rattle.message.specs.Passing.{count_from, Roomy, Lays, Stores, sights_of}
use Rattle.message.proofs.Gathering.{rest_from, length_numbered, rest_first, rest_end, rest_here, few_here}

-- ---- what is put for one balise is what the list has

each_pig : (k j : ℕ) (gs : List Glimpse) → replicate (length gs) k ≡ map (λ (m : Member). m.pig) (numbered k j gs)
each_pig k j [] = refl
each_pig k j (g ∷ gs) = ap (λ (l : List ℕ). k ∷ l) (each_pig k (suc j) gs)

count_number : (k j : ℕ) (gs : List Glimpse) → count_from j (length gs) ≡ map (λ (m : Member). m.number) (numbered k j gs)
count_number k j [] = refl
count_number k j (g ∷ gs) = ap (λ (l : List ℕ). j ∷ l) (count_number k (suc j) gs)

map_append : (f : Member → ℕ) (xs ys : List Member) → map f (xs ++ ys) ≡ map f xs ++ map f ys
map_append f [] ys = refl
map_append f (x ∷ xs) ys = ap (λ (l : List ℕ). f x ∷ l) (map_append f xs ys)

sets_append : (l : List ℕ) (i : ℕ) (xs ys : List ℕ) → sets l i (xs ++ ys) ≡ sets (sets l i xs) (i + length xs) ys
sets_append l i [] ys = let z : i + 0 ≡ i = omega arith in rw z
sets_append l i (x ∷ xs) ys = let z : suc i + length xs ≡ i + suc (length xs) = omega arith in sets_append (set l i x) (suc i) xs ys ∙ rw z

pub map_length : (f : Member → ℕ) (ms : List Member) → length (map f ms) ≡ length ms
map_length f [] = refl
map_length f (m ∷ ms) = ap suc (map_length f ms)

-- ---- the loop

pub record Storing (s ns pigs numbers : List ℕ) (k i : ℕ) (pigs' numbers' : List ℕ) : Type 0 where
  pub few : k ≤ length ns
  pub count : i + length (rest_from s ns k) ≡ length (packets_of_all s ns)
  pub pigs_same : sets pigs 0 (map (λ m. m.pig) (packets_of_all s ns)) ≡ sets pigs' i (map (λ m. m.pig) (rest_from s ns k))
  pub numbers_same : sets numbers 0 (map (λ m. m.number) (packets_of_all s ns)) ≡ sets numbers' i (map (λ m. m.number) (rest_from s ns k))
  pub pigs_long : length pigs' ≡ length pigs
  pub numbers_long : length numbers' ≡ length numbers

module _ {s ns pigs numbers : List ℕ} (l : Lineup s ns) where
  pub storing_first : Storing s ns pigs numbers 0 0 pigs numbers
  storing_first =
      let r = rest_first l in
      record {
        few = omega arith;
        count = let z = ap length r in omega arith;
        pigs_same = ap (λ (x : List Member). sets pigs 0 (map (λ (m : Member). m.pig) x)) r;
        numbers_same = ap (λ (x : List Member). sets numbers 0 (map (λ (m : Member). m.number) x)) r;
        pigs_long = refl;
        numbers_long = refl;
      }

  pub storing_end : {k i : ℕ} {pigs' numbers' : List ℕ} → Storing s ns pigs numbers k i pigs' numbers' → length ns ≤ k → Stores (packets_of_all s ns) pigs numbers i pigs' numbers'
  storing_end {k} {i} {pigs'} {numbers'} g h =
      let r = rest_end l k h in
      let c = g.count in
      let z = ap length r in
      record {
        answer = omega arith;
        pigs_then = sym (g.pigs_same ∙ ap (λ (x : List Member). sets pigs' i (map (λ (m : Member). m.pig) x)) r);
        numbers_then = sym (g.numbers_same ∙ ap (λ (x : List Member). sets numbers' i (map (λ (m : Member). m.number) x)) r);
      }

  module _ {k i : ℕ} {pigs' numbers' : List ℕ} (g : Storing s ns pigs numbers k i pigs' numbers') (h : k < length ns) (n : ℕ) (e : n ≡ length (sights_of s ns k)) where
    abbrev gs : List Glimpse
    gs = sights_of s ns k

    turn_count : length (rest_from s ns k) ≡ n + length (rest_from s ns (k + 1))
    turn_count =
        let a = ap length (rest_here l k h) ∙ length-append (numbered k 0 gs) (rest_from s ns (k + 1)) in
        let b = length_numbered k 0 gs in
        omega arith

    pub storing_room : 264 ≤ length pigs → 264 ≤ length numbers → Roomy n i pigs' numbers'
    storing_room hp hn =
        let f = few_here l k h in
        let m = lineup_most l in
        let c = g.count in
        let t = turn_count in
        let p = g.pigs_long in
        let q = g.numbers_long in
        record { few = omega arith; pigs_left = omega arith; numbers_left = omega arith }

    module _ {r : ℕ} {p q : List ℕ} (w : Lays k i n pigs' numbers' r p q) where
      put : (f : Member → ℕ) (l' : List ℕ) → sets l' i (map f (rest_from s ns k)) ≡ sets (sets l' i (map f (numbered k 0 gs))) r (map f (rest_from s ns (k + 1)))
      put f l' =
          let z : i + length (map f (numbered k 0 gs)) ≡ r = ap (λ (x : ℕ). i + x) (map_length f (numbered k 0 gs) ∙ length_numbered k 0 gs ∙ sym e) ∙ sym w.answer in
          ap (λ (x : List Member). sets l' i (map f x)) (rest_here l k h)
          ∙ ap (sets l' i) (map_append f (numbered k 0 gs) (rest_from s ns (k + 1)))
          ∙ sets_append l' i (map f (numbered k 0 gs)) (map f (rest_from s ns (k + 1)))
          ∙ ap (λ (x : ℕ). sets (sets l' i (map f (numbered k 0 gs))) x (map f (rest_from s ns (k + 1)))) z

      pub storing_on : Storing s ns pigs numbers (k + 1) r p q
      storing_on =
          let a = w.answer in
          let c = g.count in
          let t = turn_count in
          let pig : sets pigs' i (map (λ (m : Member). m.pig) (numbered k 0 gs)) ≡ p =
          ap (sets pigs' i) (sym (each_pig k 0 gs) ∙ ap (λ (x : ℕ). replicate x k) (sym e)) ∙ sym w.pigs_then in
          let num : sets numbers' i (map (λ (m : Member). m.number) (numbered k 0 gs)) ≡ q =
          ap (sets numbers' i) (sym (count_number k 0 gs) ∙ ap (count_from 0) (sym e)) ∙ sym w.numbers_then in
          record {
            few = omega arith;
            count = omega arith;
            pigs_same = g.pigs_same ∙ put (λ m. m.pig) pigs' ∙ ap (λ (x : List ℕ). sets x r (map (λ (m : Member). m.pig) (rest_from s ns (k + 1)))) pig;
            numbers_same = g.numbers_same ∙ put (λ m. m.number) numbers' ∙ ap (λ (x : List ℕ). sets x r (map (λ (m : Member). m.number) (rest_from s ns (k + 1)))) num;
            pigs_long = ap length w.pigs_then ∙ length-sets pigs' i (replicate n k) ∙ g.pigs_long;
            numbers_long = ap length w.numbers_then ∙ length-sets numbers' i (count_from 0 n) ∙ g.numbers_long;
          }
