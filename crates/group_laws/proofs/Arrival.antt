-- "The order of arrival changes neither acceptance nor an accepted group's answer". Assumes nothing.
use mathlib.Core.Bool.{Bool, true, false, cond, ◌&&◌}
use mathlib.Core.List.{List, [], ◌∷◌, ◌++◌}
use mathlib.Core.List.Permᴰ
use mathlib.Core.List.{Permᴰ}
use mathlib.Core.Path.{◌≡◌, refl, sym, ap, ap₂, ◌∙◌, subst}
use Prim.Native.Nat.{ℕ, zero, suc, ◌+◌, ◌≤◌, ◌<◌}
use native.Mathlib.Omega.{arith}
use borrow.Author.Tests.{eqb-true, eqb-false}
use lib.Dec.{eqb, leb}
use lib.ListN.{length}
use Rattle.format.specs.Fields.{Field, NID_C, NID_BG, Q_LINK, N_PIG, N_TOTAL}
use Rattle.format.specs.Rules.{Terms}
use Rattle.format.specs.Telegrams.{Entry, Result}
use Rattle.format.specs.Telegrams.Result.{accepted, refused}
use Rattle.laws.proofs.EachWay.{eqb_symmetric}
use Rattle.states.specs.Reader.{checked}
use Rattle.group.specs.Groups.{Part, parts, Arrived, arrival, arrived, held, every, pairwise, same_in, agree, standing, once, grouped, in_order, Member, lined, message, judged, group, fault}
use Rattle.group.specs.declared.Cause.TheVariants.{Identity, Room}
use Rattle.group.specs.Groups.Arrived.{all, stops}
use Rattle.group.specs.Groups.Message.{lists, refuses}

abbrev pub Telegrams : Type 0
Telegrams = List (List Entry)

-- ---- tests of a list that do not go by its order

pub perm_length : {A : Type 0} {l m : List A} → Permᴰ l m → length l ≡ length m
perm_length Permᴰ.nil = refl
perm_length (Permᴰ.cons e d) = ap suc (perm_length d)
perm_length (Permᴰ.swap e f) = refl
perm_length (Permᴰ.trans d e) = perm_length d ∙ perm_length e

-- a list of one is no other
pub perm_one : {A : Type 0} {l m : List A} → Permᴰ l m → length l ≡ 1 → l ≡ m
perm_one Permᴰ.nil h = refl
perm_one (Permᴰ.cons {l₁ = []} {l₂ = []} e d) h = ap (λ x. x ∷ []) e
perm_one (Permᴰ.cons {l₁ = []} {l₂ = y ∷ m} e d) h = let n = perm_length d in absurd (omega arith)
perm_one (Permᴰ.cons {l₁ = x ∷ l} e d) h = absurd (omega arith)
perm_one (Permᴰ.swap e f) h = absurd (omega arith)
perm_one (Permᴰ.trans d e) h = let i = perm_one d h in i ∙ perm_one e (sym (perm_length d) ∙ h)

and_swap : (a b c : Bool) → (a && (b && c)) ≡ (b && (a && c))
and_swap true b c = refl
and_swap false true c = refl
and_swap false false c = refl

pub perm_every : (test : List Entry → Bool) {l m : Telegrams} → Permᴰ l m → every test l ≡ every test m
perm_every test Permᴰ.nil = refl
perm_every test (Permᴰ.cons e d) = ap₂ ◌&&◌ (ap test e) (perm_every test d)
perm_every test (Permᴰ.swap {a = a} {b = b} {l = l} e f) =
    and_swap (test a) (test b) (every test l) ∙ ap₂ (λ x y. test x && (test y && every test l)) f e
perm_every test (Permᴰ.trans d e) = perm_every test d ∙ perm_every test e

pairs_swap : (a b c d e : Bool) → ((a && b) && (c && d)) ≡ ((a && c) && (b && d))
pairs_swap true b c d e = and_swap b c d
pairs_swap false b c d e = refl

-- of a test that does not go by which of two comes first
pub perm_pairwise : (test : List Entry → List Entry → Bool) → ((t u : List Entry) → test t u ≡ test u t) → {l m : Telegrams} → Permᴰ l m
    → pairwise test l ≡ pairwise test m
perm_pairwise test s Permᴰ.nil = refl
perm_pairwise test s (Permᴰ.cons {b = b} {l₁ = l} {l₂ = m} e d) =
    ap₂ ◌&&◌ (ap (λ x. every (test x) l) e ∙ perm_every (test b) d) (perm_pairwise test s d)
perm_pairwise test s (Permᴰ.swap {a = a} {b = b} {l = l} e f) =
    ap (λ x. (x && every (test a) l) && (every (test b) l && pairwise test l)) (s a b)
    ∙ crossed (test b a) (every (test a) l) (every (test b) l) (pairwise test l)
    ∙ ap₂ (λ x y. (test x y && every (test x) l) && (every (test y) l && pairwise test l)) f e
  where
    crossed : (x y z w : Bool) → ((x && y) && (z && w)) ≡ ((x && z) && (y && w))
    crossed true y z w = and_swap y z w
    crossed false y z w = refl
perm_pairwise test s (Permᴰ.trans d e) = perm_pairwise test s d ∙ perm_pairwise test s e

-- ---- 21

same_symmetric : (f : Field) (t u : List Entry) → same_in f t u ≡ same_in f u t
same_symmetric f t u = eqb_symmetric (held f t) (held f u)

pub agree_symmetric : (t u : List Entry) → agree t u ≡ agree u t
agree_symmetric t u =
    ap₂ ◌&&◌ (ap₂ ◌&&◌ (ap₂ ◌&&◌ (same_symmetric NID_C t u) (same_symmetric NID_BG t u)) (same_symmetric Q_LINK t u)) (same_symmetric N_TOTAL t u)

pub perm_standing : (k : ℕ) {l m : Telegrams} → Permᴰ l m → Permᴰ (standing k l) (standing k m)
perm_standing k Permᴰ.nil = Permᴰ.nil
perm_standing k (Permᴰ.cons {a = a} {b = b} {l₁ = l} {l₂ = m} e d) =
    subst (λ x. Permᴰ (standing k (a ∷ l)) (standing k (x ∷ m))) e (by_test (eqb (held N_PIG a) k) (perm_standing k d))
  where
    by_test : (c : Bool) → Permᴰ (standing k l) (standing k m)
        → Permᴰ (cond c (a ∷ standing k l) (standing k l)) (cond c (a ∷ standing k m) (standing k m))
    by_test true h = Permᴰ.cons refl h
    by_test false h = h
perm_standing k (Permᴰ.swap {a = a} {b = b} {a' = x} {b' = y} {l = l} e f) =
    subst (λ y. Permᴰ (standing k (a ∷ b ∷ l)) (standing k (x ∷ y ∷ l))) e
    (subst (λ x. Permᴰ (standing k (a ∷ b ∷ l)) (standing k (x ∷ a ∷ l))) f (by_test (eqb (held N_PIG a) k) (eqb (held N_PIG b) k)))
  where
    rest : Telegrams
    rest = standing k l

    by_test : (c d : Bool)
        → Permᴰ (cond c (a ∷ cond d (b ∷ standing k l) (standing k l)) (cond d (b ∷ standing k l) (standing k l)))
        (cond d (b ∷ cond c (a ∷ standing k l) (standing k l)) (cond c (a ∷ standing k l) (standing k l)))
    by_test true true = Permᴰ.swap refl refl
    by_test true false = Permᴰ.refl (a ∷ standing k l)
    by_test false true = Permᴰ.refl (b ∷ standing k l)
    by_test false false = Permᴰ.refl (standing k l)
perm_standing k (Permᴰ.trans d e) = Permᴰ.trans (perm_standing k d) (perm_standing k e)

pub perm_once : (n : ℕ) {l m : Telegrams} → Permᴰ l m → once n l ≡ once n m
perm_once zero d = refl
perm_once (suc n) d = ap₂ ◌&&◌ (ap (λ x. eqb x 1) (perm_length (perm_standing n d))) (perm_once n d)

pub perm_grouped : {l m : Telegrams} → Permᴰ l m → grouped l ≡ grouped m
unfolding grouped
perm_grouped {l} {m} d =
    rw (perm_length d, perm_pairwise agree agree_symmetric d, perm_every (λ t. eqb (suc (held N_TOTAL t)) (length m)) d, perm_once (length m) d)

-- ---- by their N_PIG

and_left : (a b : Bool) → (a && b) ≡ true → a ≡ true
and_left true b h = refl
and_left false b h = h

and_right : (a b : Bool) → (a && b) ≡ true → b ≡ true
and_right true b h = h
and_right false b h = let z : ◌≡◌ {A = ℕ} 0 1 = cc in absurd (omega arith)

pub once_at : (n j : ℕ) (ts : Telegrams) → once n ts ≡ true → j < n → length (standing j ts) ≡ 1
once_at zero j ts h lt = absurd (omega arith)
once_at (suc n) j ts h lt = by_test (eqb j n) refl (λ l. once_at n j ts (and_right (eqb (length (standing n ts)) 1) (once n ts) h) l)
  where
    by_test : (b : Bool) → eqb j n ≡ b → (j < n → length (standing j ts) ≡ 1) → length (standing j ts) ≡ 1
    by_test true i k = rw (eqb-true j n i) (eqb-true (length (standing n ts)) 1 (and_left (eqb (length (standing n ts)) 1) (once n ts) h))
    by_test false i k = let ne = eqb-false j n i in k (omega (arith, ne))

pub perm_in_order : (n k m : ℕ) {l r : Telegrams} → Permᴰ l r → once n l ≡ true → k + m ≤ n → in_order k m l ≡ in_order k m r
unfolding in_order
perm_in_order n k zero d h le = refl
perm_in_order n k (suc m) {l} {r} d h le =
    ap₂ ◌++◌ (perm_one (perm_standing k d) (once_at n k l h (omega arith))) (perm_in_order n (suc k) m d h (omega arith))

-- ---- the message does not go by the order of arrival

pub grouped_once : (l : Telegrams) → grouped l ≡ true → once (length l) l ≡ true
unfolding grouped
grouped_once l h =
    let n = length l in
    let c : Bool = pairwise agree l in
    let d : Bool = every (λ t. eqb (suc (held N_TOTAL t)) n) l in
    and_right d (once n l) (and_right c (d && once n l) (and_right (leb n 8) (c && (d && once n l)) (and_right (leb 1 n) (leb n 8 && (c && (d && once n l))) h)))

pub perm_message : {l m : Telegrams} → Permᴰ l m → message l ≡ message m
unfolding message
perm_message {l} {m} d = by_test (grouped l) refl
  where
    by_test : (b : Bool) → grouped l ≡ b → cond (grouped l) (lined (in_order 0 (length l) l)) (refuses (fault Identity 0 0)) ≡ cond (grouped m) (lined (in_order 0 (length m) m)) (refuses (fault Identity 0 0))
    by_test true h =
        rw (h, sym (perm_grouped d) ∙ h)
        (ap lined (perm_in_order (length l) 0 (length l) d (grouped_once l h) (omega arith) ∙ ap (λ n. in_order 0 n m) (perm_length d)))
    by_test false h = rw (h, sym (perm_grouped d) ∙ h)

-- ---- and so for what arrives

-- what is read of parts in another order
pub record Others (p : Terms) (ts : Telegrams) (qs : List Part) : Type 0 where
  pub telegrams : Telegrams
  pub reads : (i : ℕ) → arrived p i qs ≡ all telegrams
  pub same : Permᴰ ts telegrams

-- the first of parts that all read, and the rest
pub record First (p : Terms) (i : ℕ) (x : Part) (xs : List Part) (ts : Telegrams) : Type 0 where
  pub head : List Entry
  pub rest : Telegrams
  pub reads : checked p x.bytes x.size ≡ accepted head
  pub others : arrived p (suc i) xs ≡ all rest
  pub is : ts ≡ head ∷ rest

module _ (p : Terms) where
  pub first_of : (i : ℕ) (x : Part) (xs : List Part) (ts : Telegrams) → arrived p i (x ∷ xs) ≡ all ts → First p i x xs ts
  unfolding arrived
  first_of i x xs ts h = by_result (checked p x.bytes x.size) (arrived p (suc i) xs) refl refl h
    where
      by_result : (r : Result) (a : Arrived) → checked p x.bytes x.size ≡ r → arrived p (suc i) xs ≡ a → arrival r i a ≡ all ts → First p i x xs ts
      by_result (accepted es) (all us) e f g = record { head = es; rest = us; reads = e; others = f; is = cc }
      by_result (accepted es) (stops j r) e f g = let z : ◌≡◌ {A = ℕ} 0 1 = cc in absurd (omega arith)
      by_result (refused r) a e f g = let z : ◌≡◌ {A = ℕ} 0 1 = cc in absurd (omega arith)

  read_first : (i : ℕ) (x : Part) (xs : List Part) (es : List Entry) (ts : Telegrams) → checked p x.bytes x.size ≡ accepted es
      → arrived p (suc i) xs ≡ all ts → arrived p i (x ∷ xs) ≡ all (es ∷ ts)
  unfolding arrived
  read_first i x xs es ts e f = rw (e, f)

  -- the arrival number is no part of what is read
  pub any_number : (i j : ℕ) (xs : List Part) (ts : Telegrams) → arrived p i xs ≡ all ts → arrived p j xs ≡ all ts
  unfolding arrived
  any_number i j [] ts h = h
  any_number i j (x ∷ xs) ts h =
      let f = first_of i x xs ts h in
      read_first j x xs f.head f.rest f.reads (any_number (suc i) (suc j) xs f.rest f.others) ∙ ap all (sym f.is)

  pub perm_arrived : {xs ys : List Part} → Permᴰ xs ys → (i : ℕ) (ts : Telegrams) → arrived p i xs ≡ all ts → Others p ts ys
  unfolding arrived
  perm_arrived Permᴰ.nil i ts h =
      record { telegrams = ts; reads = λ j. h; same = Permᴰ.refl ts }
  perm_arrived (Permᴰ.cons {a = x} {b = y} {l₁ = xs} {l₂ = ys} e d) i ts h =
      let f = first_of i x xs ts h in
      let o = perm_arrived d (suc i) f.rest f.others in
      record {
        telegrams = f.head ∷ o.telegrams;
        reads = λ j. read_first j y ys f.head o.telegrams (ap (λ z. checked p z.bytes z.size) (sym e) ∙ f.reads) (o.reads (suc j));
        same = subst (λ l. Permᴰ l (f.head ∷ o.telegrams)) (sym f.is) (Permᴰ.cons refl o.same);
      }
  perm_arrived (Permᴰ.swap {a = a} {b = b} {a' = c} {b' = d} {l = xs} e g) i ts h =
      let f = first_of i a (b ∷ xs) ts h in
      let k = first_of (suc i) b xs f.rest f.others in
      record {
        telegrams = k.head ∷ f.head ∷ k.rest;
        reads = λ j. read_first j c (d ∷ xs) k.head (f.head ∷ k.rest) (ap (λ z. checked p z.bytes z.size) (sym g) ∙ k.reads)
            (read_first (suc j) d xs f.head k.rest (ap (λ z. checked p z.bytes z.size) (sym e) ∙ f.reads)
            (any_number (suc (suc i)) (suc (suc j)) xs k.rest k.others));
        same = subst (λ l. Permᴰ l (k.head ∷ f.head ∷ k.rest)) (sym (f.is ∙ ap (λ l. f.head ∷ l) k.is)) (Permᴰ.swap refl refl);
      }
  perm_arrived (Permᴰ.trans d e) i ts h =
      let o = perm_arrived d i ts h in
      let q = perm_arrived e i o.telegrams (o.reads i) in
      record { telegrams = q.telegrams; reads = q.reads; same = Permᴰ.trans o.same q.same }

  -- "The order of arrival changes neither acceptance nor an accepted group's answer"
  pub order_of_arrival : (s t ns ms : List ℕ) (room : ℕ) (l : List Member) → Permᴰ (parts s ns) (parts t ms)
      → group p s ns room ≡ lists l → group p t ms room ≡ lists l
  unfolding group
  order_of_arrival s t ns ms room l d h = by_room (leb 264 room) h
    where
      by_arrival : (a : Arrived) → arrived p 0 (parts s ns) ≡ a → judged a ≡ lists l → judged (arrived p 0 (parts t ms)) ≡ lists l
      by_arrival (all ts) e g = let o = perm_arrived d 0 ts e in rw (o.reads 0) (sym (perm_message o.same) ∙ g)
      by_arrival (stops i r) e g = let z : ◌≡◌ {A = ℕ} 0 1 = cc in absurd (omega arith)

      by_room : (b : Bool) → cond b (judged (arrived p 0 (parts s ns))) (refuses (fault Room 0 0)) ≡ lists l
          → cond b (judged (arrived p 0 (parts t ms))) (refuses (fault Room 0 0)) ≡ lists l
      by_room true g = by_arrival (arrived p 0 (parts s ns)) refl g
      by_room false g = g
