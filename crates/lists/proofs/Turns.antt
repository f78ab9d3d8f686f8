-- A list by the tests that the code makes: one law for each way out, and one for a turn of its loop. Assumes nothing.
use Rattle.std.specs.Prelude.{Some, None}
use mathlib.Core.Path.{◌≡◌, refl, sym, ap, ◌∙◌}
use mathlib.Core.List.{List}
use Prim.Native.Nat.{ℕ, suc, ◌+◌, ◌≤◌, ◌<◌}
use native.Mathlib.Omega.{arith}
use borrow.Author.Tests.{le-leb, lt-leb, eq-eqb, ne_eqb}
use Rattle.bits.specs.Ahead.{behind, ahead_at}
use Rattle.bits.specs.Take.{taken_at, skip_at}
use Rattle.bits.specs.declared.Cursor.{Cursor}
use Rattle.bits.proofs.Fields.{skipped}
use Rattle.hops.specs.Hops.{Small, counted, none, link_in, transition_in, choice_in, condition_in, circuit_in}
use Rattle.hops.proofs.Kept.{is_counted}
use Rattle.hops.specs.declared.Hop.{Hop}
use Rattle.lists.specs.Lists.{group_at, others_at, Bounded, list_at, apart_at, packet_list, links_at, levels_at, choices_at, conditions_at, circuits_at}

-- ---- a group by its window

module _ (s : List ℕ) (n least : ℕ) (f : ℕ → Hop) (x : ℕ) where
  pub group_seen : {w : ℕ} {c : Cursor} → ahead_at s n least x ≡ Some (w, c) → group_at s n least f x ≡ f w
  unfolding group_at
  group_seen e = rw e

  pub group_short : ahead_at s n least x ≡ None → group_at s n least f x ≡ none
  unfolding group_at
  group_short e = rw e

-- ---- so many groups

module _ (g : ℕ → Hop) (e : ℕ) where
  others_one : (k x v : ℕ) (h : Hop) → g x ≡ h → (h.bits ≡ 0 → ⊥) → others_at g e (suc k) x v ≡ others_at g e k (x + h.bits) (v + h.values)
  unfolding others_at
  others_one k x v h eh b = rw (eh, ne_eqb h.bits 0 b)

  others_none : (k x v : ℕ) (h : Hop) → g x ≡ h → h.bits ≡ 0 → others_at g e (suc k) x v ≡ 0
  unfolding others_at
  others_none k x v h eh b = rw (eh, eq-eqb h.bits 0 b)

  -- a group more
  pub others_on : (left k x v : ℕ) (h : Hop) → left ≡ suc k → g x ≡ h → (h.bits ≡ 0 → ⊥)
      → others_at g e left x v ≡ others_at g e k (x + h.bits) (v + h.values)
  others_on left k x v h l eh b = ap (λ (j : ℕ). others_at g e j x v) l ∙ others_one k x v h eh b

  -- one that breaks a rule
  pub others_broken : (left k x v : ℕ) (h : Hop) → left ≡ suc k → g x ≡ h → h.bits ≡ 0 → 0 ≡ others_at g e left x v
  others_broken left k x v h l eh b = sym (ap (λ (j : ℕ). others_at g e j x v) l ∙ others_none k x v h eh b)

  -- none is left, and they end there, or elsewhere
  pub others_end : (left x v : ℕ) → left ≡ 0 → x ≡ e → v ≡ others_at g e left x v
  unfolding others_at
  others_end left x v l h = rw (l, eq-eqb x e h)

  pub others_astray : (left x v : ℕ) → left ≡ 0 → (x ≡ e → ⊥) → 0 ≡ others_at g e left x v
  unfolding others_at
  others_astray left x v l h = rw (l, ne_eqb x e h)

-- ---- a loop over groups

-- so many are left from the bit x on, and what is counted in all does not change
pub record Going (g : ℕ → Hop) (n e all x left v : ℕ) : Type 0 where
  pub bounded : Bounded n x left v
  pub some : 1 ≤ v
  pub counts : all ≡ others_at g e left x v

module _ {g : ℕ → Hop} {n e all x left v : ℕ} (i : Going g n e all x left v) where
  pub going_on : (k : ℕ) (h : Hop) → left ≡ suc k → g x ≡ h → (h.bits ≡ 0 → ⊥) → x ≤ 830 → Small h → Going g n e all (x + h.bits) k (v + h.values)
  going_on k h l eh b low small =
      record {
        bounded = (i.bounded.0, omega arith, omega (arith, i.bounded.2));
        some = omega (arith, i.some);
        counts = i.counts ∙ others_on g e left k x v h l eh b;
      }

  pub going_broken : (k : ℕ) → left ≡ suc k → (g x).bits ≡ 0 → None ≡ counted all
  going_broken k l b = ap counted (others_broken g e left k x v (g x) l refl b ∙ sym i.counts)

  pub going_end : left ≡ 0 → x ≡ e → Some v ≡ counted all
  going_end l h = is_counted (others_end g e left x v l h ∙ sym i.counts) i.some

  pub going_astray : left ≡ 0 → (x ≡ e → ⊥) → None ≡ counted all
  going_astray l h = ap counted (others_astray g e left x v l h ∙ sym i.counts)

-- ---- a packet that ends in a list

module _ (n head : ℕ) (list : ℕ → ℕ) (x : ℕ) where
  pub list_long : 830 < n → 0 ≡ packet_list n head list x
  list_long h = rw (lt-leb n 830 h)

  module _ (l : n ≤ 830) where
    pub list_lacking : skip_at n head x ≡ None → 0 ≡ packet_list n head list x
    list_lacking e = rw (le-leb n 830 l, e)

    pub list_there : {c : Cursor} → skip_at n head x ≡ Some c → list c.at ≡ packet_list n head list x
    list_there e = rw (le-leb n 830 l, e)

-- the first group and N_ITER lie in one window
module _ (s : List ℕ) (n head least : ℕ) (f : ℕ → Hop) (e v x : ℕ) (l : n ≤ 830) {y : Cursor} (at : skip_at n head x ≡ Some y) where
  there : list_at s n least f e v y.at ≡ packet_list n head (list_at s n least f e v) x
  there = list_there n head (list_at s n least f e v) x l at

  pub first_low : y.at ≤ 830
  first_low = let p = skipped n head x y at in omega (arith, p.within, p.past)

  pub first_short : ahead_at s n (least + 5) y.at ≡ None → 0 ≡ packet_list n head (list_at s n least f e v) x
  unfolding list_at
  first_short h = rw (← there, h)

  module _ {w : ℕ} {c : Cursor} (seen : ahead_at s n (least + 5) y.at ≡ Some (w, c)) (h : Hop) (eh : f w ≡ h) where
    pub first_broken : h.bits ≡ 0 → 0 ≡ packet_list n head (list_at s n least f e v) x
    unfolding list_at
    first_broken b = rw (← there, seen, eh, eq-eqb h.bits 0 b)

    pub first_kept : (h.bits ≡ 0 → ⊥)
        → others_at (group_at s n least f) e (behind w h.bits 5) (y.at + h.bits + 5) (v + h.values + 1)
        ≡ packet_list n head (list_at s n least f e v) x
    unfolding list_at
    first_kept b = rw (← there, seen, eh, ne_eqb h.bits 0 b)

-- N_ITER is taken by itself
module _ (g : ℕ → Hop) (s : List ℕ) (n head e v x : ℕ) (l : n ≤ 830) {y : Cursor} (at : skip_at n head x ≡ Some y) (h : Hop) (eh : g y.at ≡ h) where
  begins : apart_at g s n e v y.at ≡ packet_list n head (apart_at g s n e v) x
  begins = list_there n head (apart_at g s n e v) x l at

  pub apart_broken : h.bits ≡ 0 → 0 ≡ packet_list n head (apart_at g s n e v) x
  unfolding apart_at
  apart_broken b = rw (← begins, eh, eq-eqb h.bits 0 b)

  pub apart_short : (h.bits ≡ 0 → ⊥) → taken_at s n 5 (y.at + h.bits) ≡ None → 0 ≡ packet_list n head (apart_at g s n e v) x
  unfolding apart_at
  apart_short b t = rw (← begins, eh, ne_eqb h.bits 0 b, t)

  pub apart_kept : (h.bits ≡ 0 → ⊥) → {k : ℕ} {c : Cursor} → taken_at s n 5 (y.at + h.bits) ≡ Some (k, c)
      → others_at g e k c.at (v + h.values + 1) ≡ packet_list n head (apart_at g s n e v) x
  unfolding apart_at
  apart_kept b t = rw (← begins, eh, ne_eqb h.bits 0 b, t)

-- ---- the packets

module _ (s : List ℕ) (n e x : ℕ) where
  pub links_is : packet_list n 25 (list_at s n 39 link_in e 4) x ≡ links_at s n e x
  unfolding links_at
  links_is = refl

  pub levels_is : packet_list n 40 (list_at s n 18 transition_in e 5) x ≡ levels_at s n e x
  unfolding levels_at
  levels_is = refl

  pub choices_is : packet_list n 23 (list_at s n 3 choice_in e 3) x ≡ choices_at s n e x
  unfolding choices_at
  choices_is = refl

  pub conditions_is : packet_list n 26 (list_at s n 34 condition_in e 5) x ≡ conditions_at s n e x
  unfolding conditions_at
  conditions_is = refl

  pub circuits_is : packet_list n 64 (list_at s n 24 circuit_in e 8) x ≡ circuits_at s n e x
  unfolding circuits_at
  circuits_is = refl
