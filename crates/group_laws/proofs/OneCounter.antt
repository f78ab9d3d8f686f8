-- "By clauses 7.1.6 and 7.1.7 a counter of 254 never matches, and all counters other than 255 must be equal": the counters pass just where there is one number, not 254, that each is if it is not 255. Assumes nothing.
use mathlib.Core.Bool.{Bool, true, false, not, ◌&&◌, ◌||◌, or-true}
use mathlib.Core.List.{List, [], ◌∷◌}
use mathlib.Core.Logic.{◌⊎◌, inl, inr, ◌↔◌}
use mathlib.Core.Path.{◌≡◌, refl, sym, ◌∙◌}
use Prim.Native.Nat.{ℕ}
use native.Mathlib.Omega.{arith}
use borrow.Author.Tests.{eqb-true, eqb-false, eq-eqb, ne_eqb}
use lib.Dec.{eqb}
use Rattle.format.specs.Fields.{M_MCOUNT}
use Rattle.format.specs.Rules.{Terms}
use Rattle.format.specs.Telegrams.{Entry}
use Rattle.group.specs.Groups.{held, every, pairwise, grouped, matches, counted}
use Rattle.group_laws.proofs.Passing.{Telegrams, line_from}
use Rattle.group_laws.proofs.Enough.{AllTelegrams}
use Rattle.group_laws.proofs.Listing.{In}
use Rattle.group_laws.proofs.Counted.{in_first, in_later, no_in}
use Rattle.group_laws.proofs.InLine.{in_cases, every_at, all_in_line, only_in_line}

-- one number, not 254, is every counter but those of 255
pub record OneCounter (ts : Telegrams) : Type 0 where
  pub counter : ℕ
  pub not_254 : counter ≡ 254 → ⊥
  pub each : (t : List Entry) → In t ts → (held M_MCOUNT t ≡ counter) ⊎ (held M_MCOUNT t ≡ 255)

pub and_two : (a b : Bool) → (a && b) ≡ true → (a ≡ true) × (b ≡ true)
and_two true true h = (refl, refl)
and_two true false h = let z : ◌≡◌ {A = ℕ} 0 1 = cc in absurd (omega arith)
and_two false b h = let z : ◌≡◌ {A = ℕ} 0 1 = cc in absurd (omega arith)

abbrev odd : List Entry → Bool
odd t = not (eqb (held M_MCOUNT t) 254)

-- ---- from the test

match_one : (t u : List Entry) → (held M_MCOUNT t ≡ 255 → ⊥) → matches t u ≡ true → (held M_MCOUNT u ≡ held M_MCOUNT t) ⊎ (held M_MCOUNT u ≡ 255)
match_one t u n h = by_tests (eqb (held M_MCOUNT t) 255) (eqb (held M_MCOUNT u) 255) (eqb (held M_MCOUNT t) (held M_MCOUNT u)) refl refl refl h
  where
    by_tests : (a b c : Bool) → eqb (held M_MCOUNT t) 255 ≡ a → eqb (held M_MCOUNT u) 255 ≡ b → eqb (held M_MCOUNT t) (held M_MCOUNT u) ≡ c → (a || (b || c)) ≡ true
        → (held M_MCOUNT u ≡ held M_MCOUNT t) ⊎ (held M_MCOUNT u ≡ 255)
    by_tests true b c i j k g = absurd (n (eqb-true (held M_MCOUNT t) 255 i))
    by_tests false true c i j k g = inr (eqb-true (held M_MCOUNT u) 255 j)
    by_tests false false true i j k g = inl (sym (eqb-true (held M_MCOUNT t) (held M_MCOUNT u) k))
    by_tests false false false i j k g = let z : ◌≡◌ {A = ℕ} 0 1 = cc in absurd (omega arith)

one_of : (l : Telegrams) → every odd l ≡ true → pairwise matches l ≡ true → OneCounter l
one_of [] h g = record { counter = 255; not_254 = λ e. omega arith; each = λ t i. no_in t i }
one_of (t ∷ l) h g = by_test (eqb (held M_MCOUNT t) 255) refl (one_of l a.1 b.1)
  where
    a : (odd t ≡ true) × (every odd l ≡ true)
    a = and_two (odd t) (every odd l) h

    b : (every (matches t) l ≡ true) × (pairwise matches l ≡ true)
    b = and_two (every (matches t) l) (pairwise matches l) g

    fine : held M_MCOUNT t ≡ 254 → ⊥
    fine e = let k = (rw e at a.0) in let z : ◌≡◌ {A = ℕ} 0 1 = cc in omega arith

    by_test : (c : Bool) → eqb (held M_MCOUNT t) 255 ≡ c → OneCounter l → OneCounter (t ∷ l)
    by_test true e o =
        record {
          counter = o.counter;
          not_254 = o.not_254;
          each = λ u i. in_cases (λ x. (held M_MCOUNT x ≡ o.counter) ⊎ (held M_MCOUNT x ≡ 255)) u t l (inr (eqb-true (held M_MCOUNT t) 255 e)) (λ j. o.each u j) i;
        }
    by_test false e o =
        record {
          counter = held M_MCOUNT t;
          not_254 = fine;
          each = λ u i. in_cases (λ x. (held M_MCOUNT x ≡ held M_MCOUNT t) ⊎ (held M_MCOUNT x ≡ 255)) u t l (inl refl)
              (λ j. match_one t u (eqb-false (held M_MCOUNT t) 255 e) (every_at (matches t) l u b.0 j)) i;
        }

-- ---- to the test

pub every_all : (test : List Entry → Bool) (l : Telegrams) → ((t : List Entry) → In t l → test t ≡ true) → every test l ≡ true
every_all test [] h = refl
every_all test (t ∷ l) h = rw (h t (in_first t l), every_all test l (λ u i. h u (in_later t i)))

module _ (c : ℕ) where
  abbrev Either : List Entry → Type 0
  Either t = (held M_MCOUNT t ≡ c) ⊎ (held M_MCOUNT t ≡ 255)

  odd_either : (c ≡ 254 → ⊥) → (t : List Entry) → Either t → odd t ≡ true
  odd_either n t (inl e) = rw (ne_eqb (held M_MCOUNT t) 254 (λ f. n (sym e ∙ f)))
  odd_either n t (inr e) = rw (ne_eqb (held M_MCOUNT t) 254 (λ f. omega arith))

  match_either : (t u : List Entry) → Either t → Either u → matches t u ≡ true
  match_either t u (inr e) b = rw (eq-eqb (held M_MCOUNT t) 255 e)
  match_either t u (inl e) (inr f) = rw (eq-eqb (held M_MCOUNT u) 255 f) (or-true (eqb (held M_MCOUNT t) 255))
  match_either t u (inl e) (inl f) = rw (eq-eqb (held M_MCOUNT t) (held M_MCOUNT u) (e ∙ sym f), or-true (eqb (held M_MCOUNT u) 255)) (or-true (eqb (held M_MCOUNT t) 255))

  pairwise_either : (l : Telegrams) → ((t : List Entry) → In t l → Either t) → pairwise matches l ≡ true
  pairwise_either [] h = refl
  pairwise_either (t ∷ l) h =
      rw (every_all (matches t) l (λ u i. match_either t u (h t (in_first t l)) (h u (in_later t i)))) (pairwise_either l (λ u i. h u (in_later t i)))

pub counted_one : (l : Telegrams) → (counted l ≡ true) ↔ OneCounter l
unfolding counted
counted_one l = (
  λ h. let a = and_two (every odd l) (pairwise matches l) h in one_of l a.0 a.1,
  λ o. rw (every_all odd l (λ t i. odd_either o.counter o.not_254 t (o.each t i)), pairwise_either o.counter l o.each),
)

-- of a group: of the telegrams as they arrived
pub group_counted : (p : Terms) (ts : Telegrams) → AllTelegrams p ts → grouped ts ≡ true → (counted (line_from ts) ≡ true) ↔ OneCounter ts
group_counted p ts h g = (
  λ e. let o = (counted_one (line_from ts)).0 e in record { counter = o.counter; not_254 = o.not_254; each = λ t i. o.each t (all_in_line p ts h g t i) },
  λ o. (counted_one (line_from ts)).1 (record { counter = o.counter; not_254 = o.not_254; each = λ t i. o.each t (only_in_line p ts h g t i) }),
)
