-- What the tests of a group come to, over any telegrams, and the loops that make them. Assumes nothing.
use mathlib.Core.Bool.{Bool, true, false, ◌&&◌}
use mathlib.Core.List.{List, [], ◌∷◌}
use mathlib.Core.Path.{◌≡◌, refl, sym, ap, ap₂, ◌∙◌}
use Prim.Native.Nat.{ℕ, suc}
use native.Mathlib.Omega.{arith}
use borrow.Author.Tests.{eq-eqb, eqb-true}
use lib.Dec.{eqb, leb}
use lib.ListN.{length, drop}
use Rattle.bits.specs.Bits.{bytes_for}
use Rattle.format.specs.Fields.{Field, N_TOTAL, NID_C, NID_BG, Q_LINK}
use Rattle.format.specs.Rules.{paper}
use Rattle.format.specs.Telegrams.{Entry}
use Rattle.group.specs.Groups.{Part, held, same_in, agree, every, pairwise, once, grouped, arrived, parts}
use Rattle.group.specs.Groups.Arrived.{all}
use Rattle.group.specs.Walks.{Arrives, telegrams_of, alike, chief}
use Rattle.group_laws.proofs.Arrival.{first_of}

abbrev Telegrams : Type 0
Telegrams = List (List Entry)

-- ---- there are as many as were lent

parts_count : (s ns : List ℕ) → length (parts s ns) ≡ length ns
unfolding parts
parts_count s [] = refl
parts_count s (n ∷ []) = refl
parts_count s (n ∷ m ∷ ns) = ap suc (parts_count (drop (bytes_for n) s) (m ∷ ns))

arrived_count : (i : ℕ) (xs : List Part) (ts : Telegrams) → arrived paper i xs ≡ all ts → length ts ≡ length xs
unfolding arrived
arrived_count i [] ts h = let e : [] ≡ ts = cc in ap length (sym e)
arrived_count i (x ∷ xs) ts h = let f = first_of paper i x xs ts h in ap length f.is ∙ ap suc (arrived_count (suc i) xs f.rest f.others)

pub telegrams_count : {s ns : List ℕ} → Arrives s ns → length (telegrams_of s ns) ≡ length ns
telegrams_count {s} {ns} a = arrived_count 0 (parts s ns) (telegrams_of s ns) a.goes ∙ parts_count s ns

-- ---- agreeing is agreeing with the first

pub four : (a b c d : Bool) → (a && b && c && d) ≡ true → (a ≡ true) × ((b ≡ true) × ((c ≡ true) × (d ≡ true)))
four true true true true h = (refl, (refl, (refl, refl)))
four true true true false h = let z : ◌≡◌ {A = ℕ} 0 1 = cc in absurd (omega arith)
four true true false d h = let z : ◌≡◌ {A = ℕ} 0 1 = cc in absurd (omega arith)
four true false c d h = let z : ◌≡◌ {A = ℕ} 0 1 = cc in absurd (omega arith)
four false b c d h = let z : ◌≡◌ {A = ℕ} 0 1 = cc in absurd (omega arith)

same_both : (f : Field) (t u v : List Entry) → same_in f t u ≡ true → same_in f t v ≡ true → same_in f u v ≡ true
same_both f t u v h k = eq-eqb (held f u) (held f v) (sym (eqb-true (held f t) (held f u) h) ∙ eqb-true (held f t) (held f v) k)

agree_both : (t u v : List Entry) → agree t u ≡ true → agree t v ≡ true → agree u v ≡ true
agree_both t u v h k =
    let a = four (same_in NID_C t u) (same_in NID_BG t u) (same_in Q_LINK t u) (same_in N_TOTAL t u) h in
    let b = four (same_in NID_C t v) (same_in NID_BG t v) (same_in Q_LINK t v) (same_in N_TOTAL t v) k in
    rw (
      same_both NID_C t u v a.0 b.0,
      same_both NID_BG t u v a.1.0 b.1.0,
      same_both Q_LINK t u v a.1.1.0 b.1.1.0,
      same_both N_TOTAL t u v a.1.1.1 b.1.1.1,
    )

pub agree_self : (t : List Entry) → agree t t ≡ true
agree_self t =
    rw (
      eq-eqb (held NID_C t) (held NID_C t) refl,
      eq-eqb (held NID_BG t) (held NID_BG t) refl,
      eq-eqb (held Q_LINK t) (held Q_LINK t) refl,
      eq-eqb (held N_TOTAL t) (held N_TOTAL t) refl,
    )

and_two : (a b : Bool) → (a && b) ≡ true → (a ≡ true) × (b ≡ true)
and_two true true h = (refl, refl)
and_two true false h = let z : ◌≡◌ {A = ℕ} 0 1 = cc in absurd (omega arith)
and_two false b h = let z : ◌≡◌ {A = ℕ} 0 1 = cc in absurd (omega arith)

every_agree : (t u : List Entry) (ts : Telegrams) → agree t u ≡ true → every (agree t) ts ≡ true → every (agree u) ts ≡ true
every_agree t u [] h k = refl
every_agree t u (v ∷ ts) h k =
    let a = and_two (agree t v) (every (agree t) ts) k in
    rw (agree_both t u v h a.0) (every_agree t u ts h a.1)

pairwise_agree : (t : List Entry) (ts : Telegrams) → every (agree t) ts ≡ true → pairwise agree ts ≡ true
pairwise_agree t [] h = refl
pairwise_agree t (u ∷ ts) h =
    let a = and_two (agree t u) (every (agree t) ts) h in
    rw (every_agree t u ts a.0 a.1) (pairwise_agree t ts a.1)

every_and : (f g : List Entry → Bool) (ts : Telegrams) → every (λ t. f t && g t) ts ≡ (every f ts && every g ts)
every_and f g [] = refl
every_and f g (t ∷ ts) = ap (λ (x : Bool). (f t && g t) && x) (every_and f g ts) ∙ turned (f t) (g t) (every f ts) (every g ts)
  where
    turned : (a b c d : Bool) → ((a && b) && (c && d)) ≡ ((a && c) && (b && d))
    turned true true true d = refl
    turned true true false d = refl
    turned true false true d = refl
    turned true false false d = refl
    turned false b c d = refl

-- what each is asked beside the first
abbrev pub like : List Entry → ℕ → List Entry → Bool
like f n t = agree f t && eqb (suc (held N_TOTAL t)) n

pub alike_first : (ts : Telegrams) (n : ℕ) → (pairwise agree ts && every (λ t. eqb (suc (held N_TOTAL t)) n) ts) ≡ every (like (chief ts) n) ts
alike_first [] n = refl
alike_first (f ∷ us) n =
    by_first (every (agree f) us) (pairwise agree us) (eqb (suc (held N_TOTAL f)) n) (every (λ t. eqb (suc (held N_TOTAL t)) n) us) (pairwise_agree f us)
    ∙ sym (ap₂ ◌&&◌ (ap (λ (x : Bool). x && eqb (suc (held N_TOTAL f)) n) (agree_self f)) (every_and (agree f) (λ t. eqb (suc (held N_TOTAL t)) n) us))
  where
    by_first : (a p b c : Bool) → (a ≡ true → p ≡ true) → ((a && p) && (b && c)) ≡ ((true && b) && (a && c))
    by_first true p b c h = rw (h refl)
    by_first false p true c h = refl
    by_first false p false c h = refl

-- ---- the whole of 21

module _ {s ns : List ℕ} (a : Arrives s ns) where
  abbrev ts : Telegrams
  ts = telegrams_of s ns

  regrouped : (n m : ℕ) → n ≡ m
      → (leb 1 n && (leb n 8 && (pairwise agree ts && (every (λ t. eqb (suc (held N_TOTAL t)) n) ts && once n ts))))
      ≡ (leb 1 m && (leb m 8 && ((pairwise agree ts && every (λ t. eqb (suc (held N_TOTAL t)) n) ts) && once m ts)))
  regrouped n m e = rw (← e) (ap (λ (x : Bool). leb 1 n && (leb n 8 && x)) (sym (assoc (pairwise agree ts) (every (λ t. eqb (suc (held N_TOTAL t)) n) ts) (once n ts))))
    where
      assoc : (x y z : Bool) → ((x && y) && z) ≡ (x && (y && z))
      assoc true y z = refl
      assoc false y z = refl

  pub grouped_is : grouped ts ≡ (leb 1 (length ns) && (leb (length ns) 8 && (alike ts && once (length ns) ts)))
  unfolding grouped
  grouped_is = regrouped (length ts) (length ns) (telegrams_count a)
