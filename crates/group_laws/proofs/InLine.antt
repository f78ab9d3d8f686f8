-- By their N_PIG the telegrams of an accepted group are those that arrived, none lost and none added, and each stands at its own N_PIG. Assumes nothing.
use mathlib.Core.Bool.{Bool, true, false, cond, ◌&&◌}
use mathlib.Core.List.{List, [], ◌∷◌, ◌++◌}
use mathlib.Core.Logic.{◌⊎◌, inl, inr}
use mathlib.Core.Path.{◌≡◌, refl, sym, ap, ◌∙◌, subst}
use Prim.Native.Nat.{ℕ, zero, suc, ◌+◌, ◌≤◌, ◌<◌}
use native.Mathlib.Omega.{arith}
use borrow.Author.Tests.{eqb-true, eqb-false}
use lib.Dec.{eqb, leb}
use lib.ListN.{length}
use Rattle.format.specs.Fields.{N_PIG, N_TOTAL}
use Rattle.format.specs.Rules.{Terms}
use Rattle.format.specs.Telegrams.{Entry, Telegram}
use Rattle.group.specs.Groups.{held, every, pairwise, agree, standing, once, grouped, in_order}
use Rattle.group_laws.proofs.Arrival.{once_at, grouped_once}
use Rattle.group_laws.proofs.Passing.{Telegrams, line_from}
use Rattle.group_laws.proofs.Enough.{AllTelegrams}
use Rattle.group_laws.proofs.Listing.{In}
use Rattle.group_laws.proofs.Counted.{in_first, in_later, in_left, in_right, in_both, no_in}
use Rattle.group_laws.proofs.Position.{telegram_position}

-- what holds of each holds of one of them
pub in_cases : {A : Type 0} (P : A → Type 0) (a b : A) (l : List A) → P b → (In a l → P a) → In a (b ∷ l) → P a
in_cases P a b l h k i = by_place i.before i.after i.is
  where
    by_place : (x y : List _) → b ∷ l ≡ x ++ a ∷ y → P a
    by_place [] y e = let j : b ≡ a = cc in subst P j h
    by_place (c ∷ x) y e = k (record { before = x; after = y; is = cc })

pub every_at : (test : List Entry → Bool) (ts : Telegrams) (t : List Entry) → every test ts ≡ true → In t ts → test t ≡ true
every_at test [] t h i = no_in t i
every_at test (u ∷ ts) t h i = by_test (test u) refl h (λ k j. every_at test ts t k j)
  where
    by_test : (b : Bool) → test u ≡ b → (b && every test ts) ≡ true → (every test ts ≡ true → In t ts → test t ≡ true) → test t ≡ true
    by_test true e k on = in_cases (λ x. test x ≡ true) t u ts e (λ j. on k j) i
    by_test false e k on = let z : ◌≡◌ {A = ℕ} 0 1 = cc in absurd (omega arith)

pub telegram_in_lem : (p : Terms) (ts : Telegrams) (t : List Entry) → AllTelegrams p ts → In t ts → Telegram p t
telegram_in_lem p [] t h i = no_in t i
telegram_in_lem p (u ∷ ts) t h i = in_cases (Telegram p) t u ts h.0 (λ j. telegram_in_lem p ts t h.1 j) i

-- ---- those with an N_PIG

only_standing : (k : ℕ) (ts : Telegrams) (t : List Entry) → In t (standing k ts) → In t ts × (held N_PIG t ≡ k)
only_standing k [] t i = no_in t i
only_standing k (u ∷ ts) t i = by_test (eqb (held N_PIG u) k) refl i (λ j. only_standing k ts t j)
  where
    by_test : (b : Bool) → eqb (held N_PIG u) k ≡ b → In t (cond b (u ∷ standing k ts) (standing k ts)) → (In t (standing k ts) → In t ts × (held N_PIG t ≡ k))
        → In t (u ∷ ts) × (held N_PIG t ≡ k)
    by_test true e j on =
        in_cases (λ x. In x (u ∷ ts) × (held N_PIG x ≡ k)) t u (standing k ts) (in_first u ts, eqb-true (held N_PIG u) k e)
        (λ l. let r = on l in (in_later u r.0, r.1)) j
    by_test false e j on = let r = on j in (in_later u r.0, r.1)

pub every_standing : (k : ℕ) (ts : Telegrams) (t : List Entry) → In t ts → held N_PIG t ≡ k → In t (standing k ts)
every_standing k [] t i n = no_in t i
every_standing k (u ∷ ts) t i n = by_test (eqb (held N_PIG u) k) refl (λ j. every_standing k ts t j n)
  where
    by_place : (held N_PIG u ≡ k → ⊥) → (x y : Telegrams) → u ∷ ts ≡ x ++ t ∷ y → (In t ts → In t (standing k ts)) → In t (standing k ts)
    by_place o [] y q on = let j : u ≡ t = cc in absurd (o (ap (held N_PIG) j ∙ n))
    by_place o (v ∷ x) y q on = on (record { before = x; after = y; is = cc })

    by_test : (b : Bool) → eqb (held N_PIG u) k ≡ b → (In t ts → In t (standing k ts)) → In t (cond b (u ∷ standing k ts) (standing k ts))
    by_test true e on = in_cases (λ x. In x (u ∷ standing k ts)) t u ts (in_first u (standing k ts)) (λ j. in_later u (on j)) i
    by_test false e on = by_place (eqb-false (held N_PIG u) k e) i.before i.after i.is on

-- ---- all of them, in line

only_ordered : (k m : ℕ) (ts : Telegrams) (t : List Entry) → In t (in_order k m ts) → In t ts
unfolding in_order
only_ordered k zero ts t i = no_in t i
only_ordered k (suc m) ts t i = by_side (in_both t (standing k ts) (in_order (suc k) m ts) i.before i.after i.is) (λ j. only_ordered (suc k) m ts t j)
  where
    by_side : In t (standing k ts) ⊎ In t (in_order (suc k) m ts) → (In t (in_order (suc k) m ts) → In t ts) → In t ts
    by_side (inl j) on = (only_standing k ts t j).0
    by_side (inr j) on = on j

every_ordered : (k m : ℕ) (ts : Telegrams) (t : List Entry) → In t ts → k ≤ held N_PIG t → held N_PIG t < k + m → In t (in_order k m ts)
unfolding in_order
every_ordered k zero ts t i l h = absurd (omega arith)
every_ordered k (suc m) ts t i l h = by_test (eqb (held N_PIG t) k) refl (λ a b. every_ordered (suc k) m ts t i a b)
  where
    by_test : (b : Bool) → eqb (held N_PIG t) k ≡ b → (suc k ≤ held N_PIG t → held N_PIG t < suc k + m → In t (in_order (suc k) m ts))
        → In t (standing k ts ++ in_order (suc k) m ts)
    by_test true e on = in_left (in_order (suc k) m ts) (every_standing k ts t i (eqb-true (held N_PIG t) k e))
    by_test false e on =
        let n = eqb-false (held N_PIG t) k e in
        in_right (standing k ts) (on (omega (arith, n)) (omega arith))

ordered_pig : (n k m : ℕ) (ts : Telegrams) → once n ts ≡ true → k + m ≤ n → (before : Telegrams) (t : List Entry) (after : Telegrams) → in_order k m ts ≡ before ++ t ∷ after
    → held N_PIG t ≡ k + length before
unfolding in_order
ordered_pig n k zero ts h l [] t after e = let z : ◌≡◌ {A = ℕ} 0 1 = cc in absurd (omega arith)
ordered_pig n k zero ts h l (x ∷ before) t after e = let z : ◌≡◌ {A = ℕ} 0 1 = cc in absurd (omega arith)
ordered_pig n k (suc m) ts h l before t after e = by_one (standing k ts) refl (once_at n k ts h (omega arith)) before e (λ x j. ordered_pig n (suc k) m ts h (omega arith) x t after j)
  where
    by_one : (s : Telegrams) → standing k ts ≡ s → length (standing k ts) ≡ 1 → (before : Telegrams) → standing k ts ++ in_order (suc k) m ts ≡ before ++ t ∷ after
        → ((x : Telegrams) → in_order (suc k) m ts ≡ x ++ t ∷ after → held N_PIG t ≡ suc k + length x) → held N_PIG t ≡ k + length before
    by_one [] q o before e on = let z = ap length q in absurd (omega arith)
    by_one (v ∷ w ∷ s) q o before e on = let z = ap length q in absurd (omega arith)
    by_one (v ∷ []) q o [] e on =
        let f : v ∷ in_order (suc k) m ts ≡ t ∷ after = sym (ap (λ (x : Telegrams). x ++ in_order (suc k) m ts) q) ∙ e in
        let j : v ≡ t = cc in
        let r = (only_standing k ts v (record { before = []; after = []; is = q })).1 in
        let g = ap (held N_PIG) j in
        omega arith
    by_one (v ∷ []) q o (x ∷ before) e on =
        let f : v ∷ in_order (suc k) m ts ≡ x ∷ (before ++ t ∷ after) = sym (ap (λ (y : Telegrams). y ++ in_order (suc k) m ts) q) ∙ e in
        let j : in_order (suc k) m ts ≡ before ++ t ∷ after = cc in
        let r = on before j in
        omega arith

-- ---- of a group

and_left : (a b : Bool) → (a && b) ≡ true → a ≡ true
and_left true b h = refl
and_left false b h = h

and_right : (a b : Bool) → (a && b) ≡ true → b ≡ true
and_right true b h = h
and_right false b h = let z : ◌≡◌ {A = ℕ} 0 1 = cc in absurd (omega arith)

module _ (p : Terms) (ts : Telegrams) (h : AllTelegrams p ts) (g : grouped ts ≡ true) where
  totals : every (λ t. eqb (suc (held N_TOTAL t)) (length ts)) ts ≡ true
  unfolding grouped
  totals =
      let n = length ts in
      let c : Bool = pairwise agree ts in
      let d : Bool = every (λ t. eqb (suc (held N_TOTAL t)) n) ts in
      and_left d (once n ts) (and_right c (d && once n ts) (and_right (leb n 8) (c && (d && once n ts)) (and_right (leb 1 n) (leb n 8 && (c && (d && once n ts))) g)))

  -- "their N_PIG values must be 0 to N_TOTAL"
  pub pig_few : (t : List Entry) → In t ts → held N_PIG t < length ts
  pig_few t i =
      let a = eqb-true (suc (held N_TOTAL t)) (length ts) (every_at (λ t. eqb (suc (held N_TOTAL t)) (length ts)) ts t totals i) in
      let b = (telegram_position (telegram_in_lem p ts t h i)).0 in
      omega arith

  pub all_in_line : (t : List Entry) → In t ts → In t (line_from ts)
  all_in_line t i = let a = pig_few t i in every_ordered 0 (length ts) ts t i (omega arith) (omega arith)

  pub only_in_line : (t : List Entry) → In t (line_from ts) → In t ts
  only_in_line t i = only_ordered 0 (length ts) ts t i

  pub at_its_pig : (t : List Entry) (i : In t (line_from ts)) → held N_PIG t ≡ length i.before
  at_its_pig t i = let r = ordered_pig (length ts) 0 (length ts) ts (grouped_once ts g) (omega arith) i.before t i.after i.is in omega arith
