-- The loops over the packets of one balise, from head to head. Assumes nothing.
use Rattle.std.specs.Prelude.{Ok, Err, Some, None}
use mathlib.Core.Bool.{true, false}
use mathlib.Core.List.{List, [], ◌∷◌}
use mathlib.Core.Path.{◌≡◌, refl, sym, ap, ap₂, ◌∙◌}
use Prim.Native.Nat.{ℕ, zero, suc, ◌+◌, ◌-◌, ◌≤◌, ◌<◌}
use native.Mathlib.Numerals.{add-one}
use native.Mathlib.Omega.{arith}
use lib.ListN.{length, get_or, set, replicate, length-set}
use lib.Seq.{sets}
use Rattle.sightings.specs.Sightings.{head_at, repeats_in, joined_by, Glimpse, glimpsed, glimpses}
use Rattle.sightings.proofs.Finding.{Small, head_small}
use Rattle.message.specs.Passing.{passed, table_then, Passes, count_from, Lays}

-- ---- from head to head

-- so many packets at most are left, and every bit before the stop is reached by as many
seen_none : (left : ℕ) (u : List ℕ) (stop at : ℕ) → None ≡ head_at u stop at → glimpsed left u stop at ≡ []
unfolding glimpsed
seen_none zero u stop at e = refl
seen_none (suc left) u stop at e = rw (← e)

seen_one : (left : ℕ) (u : List ℕ) (stop at i d l : ℕ) → Some (i, d, l) ≡ head_at u stop at
    → glimpsed (suc left) u stop at ≡ record { id = i; dir = d; at = at + 8 } ∷ glimpsed left u stop (at + l)
unfolding glimpsed
seen_one left u stop at i d l e = rw (← e)

-- what is left of the packets at a bit
pub record Left (u : List ℕ) (stop at : ℕ) : Type 0 where
  pub few : ℕ
  pub enough : stop ≤ at + few

pub left_first : (u : List ℕ) (n : ℕ) → 8 ≤ n → Left u (n - 8) 50
left_first u n h = record { few = n - 8; enough = omega arith }

abbrev pub rest : {u : List ℕ} {stop at : ℕ} → Left u stop at → List Glimpse
rest {u} {stop} {at} g = glimpsed g.few u stop at

module _ {u : List ℕ} {stop at : ℕ} (g : Left u stop at) where
  pub rest_none : None ≡ head_at u stop at → rest g ≡ []
  rest_none e = seen_none g.few u stop at e

  module _ (i d l : ℕ) (e : Some (i, d, l) ≡ head_at u stop at) where
    pub left_on : Left u stop (at + l)
    left_on = let s = head_small u stop at i d l e in let h = g.enough in record { few = g.few - 1; enough = omega (arith, s.least, s.whole) }

    pub rest_one : rest g ≡ record { id = i; dir = d; at = at + 8 } ∷ rest left_on
    unfolding left_on
    rest_one =
        let s = head_small u stop at i d l e in
        let h = g.enough in
        let q : g.few ≡ suc (g.few - 1) = omega (arith, s.whole) in
        ap (λ (x : ℕ). glimpsed x u stop at) q ∙ seen_one (g.few - 1) u stop at i d l e

-- ---- the look

pub record Hopping (k : ℕ) (u : List ℕ) (stop : ℕ) (gs : List Glimpse) (before table : List ℕ) (at j : ℕ) : Type 0 where
  pub left : Left u stop at
  pub finds : passed k 0 before gs ≡ passed k j table (rest left)
  pub leaves : table_then before gs ≡ table_then table (rest left)
  pub long : length table ≡ 256
  pub few : j ≤ at

pub hopping_first : (k : ℕ) (u : List ℕ) (n : ℕ) (table : List ℕ) → 8 ≤ n → length table ≡ 256 → Hopping k u (n - 8) (glimpses u n) table table 50 0
unfolding left_first
hopping_first k u n table h l = record { left = left_first u n h; finds = refl; leaves = refl; long = l; few = omega arith }

module _ {k : ℕ} {u : List ℕ} {stop : ℕ} {gs : List Glimpse} {before table : List ℕ} {at j : ℕ} (g : Hopping k u stop gs before table at j) where
  pub hopping_end : None ≡ head_at u stop at → Passes k gs before (Ok j) table
  hopping_end e =
      let r = rest_none g.left e in
      record { answer = sym (g.finds ∙ ap (passed k j table) r); contents = sym (g.leaves ∙ ap (table_then table) r) }

  module _ (i d l : ℕ) (e : Some (i, d, l) ≡ head_at u stop at) where
    pub hopping_small : Small stop at i l
    hopping_small = head_small u stop at i d l e

    pub hopping_hit : repeats_in i d (get_or table i 0) ≡ true → Passes k gs before (Err (k, at + 8)) table
    hopping_hit b =
        let r = rest_one g.left i d l e in
        record { answer = sym (g.finds ∙ ap (passed k j table) r ∙ rw b); contents = sym (g.leaves ∙ ap (table_then table) r ∙ rw b) }

    pub hopping_on : repeats_in i d (get_or table i 0) ≡ false → (w : ℕ) → w ≡ joined_by (get_or table i 0) d → Hopping k u stop gs before (set table i w) (at + l) (j + 1)
    hopping_on b w q =
        let r = rest_one g.left i d l e in
        let s = head_small u stop at i d l e in
        let f = g.few in
        rw q
        (record {
          left = left_on g.left i d l e;
          finds = g.finds ∙ ap (passed k j table) r ∙ rw (b, add-one j);
          leaves = g.leaves ∙ ap (table_then table) r ∙ rw b;
          long = length-set table i _ ∙ g.long;
          few = omega (arith, s.least);
        })

-- ---- into the runs

pub record Laying (k i n : ℕ) (pigs numbers pigs' numbers' : List ℕ) (j : ℕ) : Type 0 where
  pub few : j ≤ n
  pub pigs_same : sets pigs i (replicate n k) ≡ sets pigs' (i + j) (replicate (n - j) k)
  pub numbers_same : sets numbers i (count_from 0 n) ≡ sets numbers' (i + j) (count_from j (n - j))
  pub pigs_long : length pigs' ≡ length pigs
  pub numbers_long : length numbers' ≡ length numbers

pub laying_first : (k i n : ℕ) (pigs numbers : List ℕ) → Laying k i n pigs numbers pigs numbers 0
laying_first k i n pigs numbers =
    let z : i + 0 ≡ i = omega arith in
    let y : n - 0 ≡ n = omega arith in
    record { few = omega arith; pigs_same = rw (z, y); numbers_same = rw (z, y); pigs_long = refl; numbers_long = refl }

module _ {k i n : ℕ} {pigs numbers pigs' numbers' : List ℕ} {j : ℕ} (g : Laying k i n pigs numbers pigs' numbers' j) where
  pub laying_end : n ≤ j → Lays k i n pigs numbers (i + n) pigs' numbers'
  laying_end h =
      let y : n - j ≡ 0 = omega arith in
      record {
        answer = refl;
        pigs_then = sym (g.pigs_same ∙ ap (λ (x : ℕ). sets pigs' (i + j) (replicate x k)) y);
        numbers_then = sym (g.numbers_same ∙ ap (λ (x : ℕ). sets numbers' (i + j) (count_from j x)) y);
      }

  pub laying_on : j < n → Laying k i n pigs numbers (set pigs' (i + j) k) (set numbers' (i + j) j) (j + 1)
  laying_on h =
      let y : n - j ≡ suc (n - (j + 1)) = omega arith in
      let z : suc (i + j) ≡ i + (j + 1) = omega arith in
      record {
        few = omega arith;
        pigs_same = g.pigs_same ∙ ap (λ (x : ℕ). sets pigs' (i + j) (replicate x k)) y ∙ ap (λ (x : ℕ). sets (set pigs' (i + j) k) x (replicate (n - (j + 1)) k)) z;
        numbers_same = g.numbers_same ∙ ap (λ (x : ℕ). sets numbers' (i + j) (count_from j x)) y
            ∙ ap₂ (λ (x w : ℕ). sets (set numbers' (i + j) j) x (count_from w (n - (j + 1)))) z (sym (add-one j));
        pigs_long = length-set pigs' (i + j) k ∙ g.pigs_long;
        numbers_long = length-set numbers' (i + j) j ∙ g.numbers_long;
      }
