-- "They must agree in NID_C, NID_BG, Q_LINK and N_TOTAL, and their N_PIG values must be 0 to N_TOTAL, each once", of 1 to 8 telegrams: 21 is passed just where they are one group in these words. Assumes nothing.
use mathlib.Core.Bool.{Bool, true, false, cond, ◌&&◌}
use mathlib.Core.List.{List, [], ◌∷◌, ◌++◌}
use mathlib.Core.Logic.{◌↔◌}
use mathlib.Core.Path.{◌≡◌, refl, ap, ◌∙◌}
use Prim.Native.Nat.{ℕ, zero, suc, ◌≤◌, ◌<◌}
use native.Mathlib.Omega.{arith}
use borrow.Author.Tests.{eqb-true, eqb-false, eq-eqb, ne_eqb, leb-true, le-leb}
use lib.Dec.{eqb, leb}
use lib.ListN.{length}
use Rattle.format.specs.Fields.{N_PIG, N_TOTAL, NID_C, NID_BG, Q_LINK}
use Rattle.format.specs.Telegrams.{Entry}
use Rattle.group.specs.Groups.{held, every, pairwise, same_in, agree, standing, once, grouped}
use Rattle.group_laws.proofs.Arrival.{agree_symmetric, once_at}
use Rattle.group_laws.proofs.Agreeing.{four, agree_self}
use Rattle.group_laws.proofs.Passing.{Telegrams}
use Rattle.group_laws.proofs.Listing.{In}
use Rattle.group_laws.proofs.Counted.{in_first, in_later, no_in}
use Rattle.group_laws.proofs.InLine.{in_cases, every_at, every_standing}
use Rattle.group_laws.proofs.OneCounter.{and_two, every_all}

-- ---- in words

-- "They must agree in NID_C, NID_BG, Q_LINK and N_TOTAL"
pub record Agree (t u : List Entry) : Type 0 where
  pub country : held NID_C t ≡ held NID_C u
  pub identity : held NID_BG t ≡ held NID_BG u
  pub link : held Q_LINK t ≡ held Q_LINK u
  pub total : held N_TOTAL t ≡ held N_TOTAL u

-- a telegram with this N_PIG came, and no other before it and none after it
pub record CameOnce (ts : Telegrams) (k : ℕ) : Type 0 where
  pub telegram : List Entry
  pub came : In telegram ts
  pub pig : held N_PIG telegram ≡ k
  pub none_before : (u : List Entry) → In u came.before → held N_PIG u ≡ k → ⊥
  pub none_after : (u : List Entry) → In u came.after → held N_PIG u ≡ k → ⊥

-- "A group is 1 to 8 telegrams", as they arrived, "and their N_PIG values must be 0 to N_TOTAL, each once"
pub record OneGroup (ts : Telegrams) : Type 0 where
  pub least : 1 ≤ length ts
  pub most : length ts ≤ 8
  pub agrees : (t u : List Entry) → In t ts → In u ts → Agree t u
  pub total : (t : List Entry) → In t ts → suc (held N_TOTAL t) ≡ length ts
  pub once : (k : ℕ) → k < length ts → CameOnce ts k

-- ---- they agree

agree_of : (t u : List Entry) → agree t u ≡ true → Agree t u
agree_of t u h =
    let a = four (same_in NID_C t u) (same_in NID_BG t u) (same_in Q_LINK t u) (same_in N_TOTAL t u) h in
    record {
      country = eqb-true (held NID_C t) (held NID_C u) a.0;
      identity = eqb-true (held NID_BG t) (held NID_BG u) a.1.0;
      link = eqb-true (held Q_LINK t) (held Q_LINK u) a.1.1.0;
      total = eqb-true (held N_TOTAL t) (held N_TOTAL u) a.1.1.1;
    }

of_agree : (t u : List Entry) → Agree t u → agree t u ≡ true
of_agree t u a =
    rw (
      eq-eqb (held NID_C t) (held NID_C u) a.country,
      eq-eqb (held NID_BG t) (held NID_BG u) a.identity,
      eq-eqb (held Q_LINK t) (held Q_LINK u) a.link,
      eq-eqb (held N_TOTAL t) (held N_TOTAL u) a.total,
    )

any_two : (ts : Telegrams) → pairwise agree ts ≡ true → (t u : List Entry) → In t ts → In u ts → agree t u ≡ true
any_two [] h t u i j = no_in t i
any_two (v ∷ ts) h t u i j =
    in_cases (λ x. agree x u ≡ true) t v ts (in_cases (λ x. agree v x ≡ true) u v ts (agree_self v) (λ k. every_at (agree v) ts u a.0 k) j)
    (λ k. in_cases (λ x. agree t x ≡ true) u v ts (agree_symmetric t v ∙ every_at (agree v) ts t a.0 k) (λ l. any_two ts a.1 t u k l) j) i
  where
    a : (every (agree v) ts ≡ true) × (pairwise agree ts ≡ true)
    a = and_two (every (agree v) ts) (pairwise agree ts) h

of_any_two : (ts : Telegrams) → ((t u : List Entry) → In t ts → In u ts → agree t u ≡ true) → pairwise agree ts ≡ true
of_any_two [] h = refl
of_any_two (t ∷ ts) h =
    rw (every_all (agree t) ts (λ u i. h t u (in_first t ts) (in_later t i))) (of_any_two ts (λ u v i j. h u v (in_later t i) (in_later t j)))

-- ---- each N_PIG once

none_stands : (k : ℕ) (ts : Telegrams) → ((u : List Entry) → In u ts → held N_PIG u ≡ k → ⊥) → standing k ts ≡ []
none_stands k [] h = refl
none_stands k (t ∷ ts) h = rw (ne_eqb (held N_PIG t) k (h t (in_first t ts))) (none_stands k ts (λ u i. h u (in_later t i)))

stands_none : (k : ℕ) (ts : Telegrams) → length (standing k ts) ≡ 0 → (u : List Entry) → In u ts → held N_PIG u ≡ k → ⊥
stands_none k ts h u i n = by_list (standing k ts) h (every_standing k ts u i n)
  where
    by_list : (l : Telegrams) → length l ≡ 0 → In u l → ⊥
    by_list [] g j = no_in u j
    by_list (x ∷ l) g j = omega arith

came_once : (k : ℕ) (ts : Telegrams) → length (standing k ts) ≡ 1 → CameOnce ts k
came_once k [] h = absurd (omega arith)
came_once k (t ∷ ts) h = by_test (eqb (held N_PIG t) k) refl h (λ g. came_once k ts g)
  where
    by_test : (b : Bool) → eqb (held N_PIG t) k ≡ b → length (cond b (t ∷ standing k ts) (standing k ts)) ≡ 1 → (length (standing k ts) ≡ 1 → CameOnce ts k) → CameOnce (t ∷ ts) k
    by_test true e g on =
        record {
          telegram = t;
          came = record { before = []; after = ts; is = refl };
          pig = eqb-true (held N_PIG t) k e;
          none_before = λ u i. no_in u i;
          none_after = stands_none k ts (omega arith);
        }
    by_test false e g on =
        let o = on g in
        record {
          telegram = o.telegram;
          came = record { before = t ∷ o.came.before; after = o.came.after; is = ap (λ (l : Telegrams). t ∷ l) o.came.is };
          pig = o.pig;
          none_before = λ u i n. in_cases (λ x. held N_PIG x ≡ k → ⊥) u t o.came.before (eqb-false (held N_PIG t) k e) (λ j. o.none_before u j) i n;
          none_after = o.none_after;
        }

once_came : (k : ℕ) (xs : Telegrams) (t : List Entry) (ys : Telegrams) → held N_PIG t ≡ k → ((u : List Entry) → In u xs → held N_PIG u ≡ k → ⊥)
    → ((u : List Entry) → In u ys → held N_PIG u ≡ k → ⊥) → length (standing k (xs ++ t ∷ ys)) ≡ 1
once_came k [] t ys e b a = rw (eq-eqb (held N_PIG t) k e, none_stands k ys a)
once_came k (x ∷ xs) t ys e b a = rw (ne_eqb (held N_PIG x) k (b x (in_first x xs))) (once_came k xs t ys e (λ u i. b u (in_later x i)) a)

stands_once : (k : ℕ) (ts : Telegrams) → CameOnce ts k → length (standing k ts) ≡ 1
stands_once k ts c =
    let i = c.came in
    ap (λ (x : Telegrams). length (standing k x)) i.is ∙ once_came k i.before c.telegram i.after c.pig c.none_before c.none_after

once_of : (n : ℕ) (ts : Telegrams) → ((k : ℕ) → k < n → length (standing k ts) ≡ 1) → once n ts ≡ true
once_of zero ts h = refl
once_of (suc n) ts h = rw (eq-eqb (length (standing n ts)) 1 (h n (omega arith))) (once_of n ts (λ k l. h k (omega arith)))

-- ---- the whole of 21

pub grouped_one : (ts : Telegrams) → (grouped ts ≡ true) ↔ OneGroup ts
unfolding grouped
grouped_one ts = (
  λ h.
      let n = length ts in
      let w : Bool = every (λ t. eqb (suc (held N_TOTAL t)) n) ts in
      let a = and_two (leb 1 n) (leb n 8 && (pairwise agree ts && (w && once n ts))) h in
      let b = and_two (leb n 8) (pairwise agree ts && (w && once n ts)) a.1 in
      let c = and_two (pairwise agree ts) (w && once n ts) b.1 in
      let d = and_two w (once n ts) c.1 in
      record {
        least = leb-true 1 n a.0;
        most = leb-true n 8 b.0;
        agrees = λ t u i j. agree_of t u (any_two ts c.0 t u i j);
        total = λ t i. eqb-true (suc (held N_TOTAL t)) n (every_at (λ t. eqb (suc (held N_TOTAL t)) n) ts t d.0 i);
        once = λ k l. came_once k ts (once_at n k ts d.1 l);
      },
  λ o.
      rw (
        le-leb 1 (length ts) o.least,
        le-leb (length ts) 8 o.most,
        of_any_two ts (λ t u i j. of_agree t u (o.agrees t u i j)),
        every_all (λ t. eqb (suc (held N_TOTAL t)) (length ts)) ts (λ t i. eq-eqb (suc (held N_TOTAL t)) (length ts) (o.total t i)),
        once_of (length ts) ts (λ k l. stands_once k ts (o.once k l)),
      ),
)
