-- "such copies count once, at the lowest N_PIG": what is left out is a copy of a balise before it that counts, bit for bit. Assumes nothing.
use mathlib.Core.Bool.{Bool, true, false, cond}
use mathlib.Core.List.{List, [], ◌∷◌, ◌++◌, append_assoc}
use mathlib.Core.Option.{Option, some, none}
use mathlib.Core.Path.{◌≡◌, refl, sym, ap, ◌∙◌, subst}
use Prim.Native.Nat.{ℕ, suc, ◌+◌, ◌≤◌}
use native.Mathlib.Omega.{arith}
use borrow.Author.Tests.{eqb-true}
use lib.Dec.{eqb}
use lib.ListN.{length}
use Rattle.bits.proofs.Same.{same_true}
use Rattle.format.specs.Fields.{M_DUP}
use Rattle.format.specs.Telegrams.{Entry}
use Rattle.group.specs.Groups.{Balise, held, body, copy_of, first, names_right, miscopied, linked, counting}

abbrev Telegrams : Type 0
Telegrams = List (List Entry)

-- ---- two balises, one of which names the other, have the same packets

named_next : (before : Option (List Entry)) (t u : List Entry) → names_right before t (some u) ≡ true → eqb (held M_DUP t) 1 ≡ true → body u ≡ body t
named_next before t u h e = same_true (body u) (body t) (rw e at h)

named_previous : (t u : List Entry) (after : Option (List Entry)) → names_right (some u) t after ≡ true → eqb (held M_DUP t) 2 ≡ true → body u ≡ body t
named_previous t u after h e = by_one (eqb (held M_DUP t) 1) refl h
  where
    by_one : (b : Bool) → eqb (held M_DUP t) 1 ≡ b → cond b (copy_of after t) (cond (eqb (held M_DUP t) 2) (copy_of (some u) t) true) ≡ true → body u ≡ body t
    by_one true i g = let j = sym (eqb-true (held M_DUP t) 1 i) ∙ eqb-true (held M_DUP t) 2 e in absurd (omega arith)
    by_one false i g = same_true (body u) (body t) (rw e at g)

-- the balise before, if its M_DUP names this one, has its packets
abbrev pub Looks : Option (List Entry) → List Entry → Type 0
Looks none t = Unit
Looks (some u) t = eqb (held M_DUP u) 1 ≡ true → body t ≡ body u

pub linked_same : (u t : List Entry) (after : Option (List Entry)) → Looks (some u) t → names_right (some u) t after ≡ true → linked (some u) t ≡ true → body u ≡ body t
linked_same u t after l h k = by_test (eqb (held M_DUP u) 1) refl
  where
    by_test : (b : Bool) → eqb (held M_DUP u) 1 ≡ b → body u ≡ body t
    by_test true e = sym (l e)
    by_test false e = named_previous t u after h (rw e at k)

-- ---- along the group

-- a balise of these that has the packets of t, and stands no later than k
pub data Counts (bs : List Balise) (k : ℕ) (t : List Entry) : Type 0 where
  counts : (before : List Balise) (b : Balise) (after : List Balise) → bs ≡ before ++ b ∷ after → b.pig ≤ k → body b.telegram ≡ body t → Counts bs k t

later : {bs : List Balise} {k : ℕ} {t : List Entry} (c : Balise) → Counts bs k t → Counts (c ∷ bs) k t
later c (counts x b y e l s) = counts (c ∷ x) b y (ap (λ l. c ∷ l) e) l s

-- what stands before: nothing, or a balise that is one that counts or a copy of one
abbrev Behind : List Balise → ℕ → Option (List Entry) → Type 0
Behind bs k none = Unit
Behind bs k (some u) = Counts bs k u

right : {bs : List Balise} {k : ℕ} {t : List Entry} (cs : List Balise) → Counts bs k t → Counts (bs ++ cs) k t
right cs (counts x b y e l s) = counts x b (y ++ cs) (ap (λ l. l ++ cs) e ∙ append_assoc x (b ∷ y) cs) l s

raised : {bs : List Balise} {k m : ℕ} {t : List Entry} → Counts bs k t → k ≤ m → Counts bs m t
raised (counts x b y e l s) h = counts x b y e (omega arith) s

copied : {bs : List Balise} {k : ℕ} {w t : List Entry} → Counts bs k w → body w ≡ body t → Counts bs k t
copied (counts x b y e l s) h = counts x b y e l (s ∙ h)

module _ where
  pub not_wrong : (k : ℕ) (u : Option (List Entry)) (t : List Entry) (ts : Telegrams) → miscopied k u (t ∷ ts) ≡ none
      → (names_right u t (first ts) ≡ true) × (miscopied (suc k) (some t) ts ≡ none)
  unfolding miscopied
  not_wrong k u t ts h = by_test (names_right u t (first ts)) refl h
    where
      by_test : (b : Bool) → names_right u t (first ts) ≡ b → cond b (miscopied (suc k) (some t) ts) (some k) ≡ none
          → (names_right u t (first ts) ≡ true) × (miscopied (suc k) (some t) ts ≡ none)
      by_test true e g = (e, g)
      by_test false e g = let z : ◌≡◌ {A = ℕ} 0 1 = cc in absurd (omega arith)

pub looks_on : (u : Option (List Entry)) (t : List Entry) (ts : Telegrams) → names_right u t (first ts) ≡ true → (v : List Entry) (vs : Telegrams) → ts ≡ v ∷ vs → Looks (some t) v
looks_on u t ts h v vs e d = named_next u t v (rw e at h) d

abbrev balise : ℕ → List Entry → Balise
balise k t = record { pig = k; telegram = t }

-- what the rest of the group gives, where seen are those that count up to x
abbrev Rest : List Entry → Telegrams → ℕ → Type 0
Rest x ts k =
    (s : List Balise) → Counts s (suc k) x → (before : Telegrams) (t : List Entry) (after : Telegrams) → ts ≡ before ++ t ∷ after
    → Counts (s ++ counting (suc k) (some x) ts) (suc k + length before) t

-- at a balise that is a copy of the one before it
at_copy : (x : List Entry) (ts : Telegrams) (k : ℕ) (seen : List Balise) → Counts seen k x → Rest x ts k
    → (before : Telegrams) (t : List Entry) (after : Telegrams) → x ∷ ts ≡ before ++ t ∷ after
    → Counts (seen ++ counting (suc k) (some x) ts) (k + length before) t
at_copy x ts k seen c rest [] t after e = let i : x ≡ t = cc in raised (copied (right (counting (suc k) (some x) ts) c) (ap body i)) (omega arith)
at_copy x ts k seen c rest (y ∷ before) t after e =
    raised (rest seen (raised c (omega arith)) before t after (cc)) (omega arith)

-- at one that counts
at_new : (x : List Entry) (ts : Telegrams) (k : ℕ) (seen : List Balise) → Rest x ts k
    → (before : Telegrams) (t : List Entry) (after : Telegrams) → x ∷ ts ≡ before ++ t ∷ after
    → Counts (seen ++ balise k x ∷ counting (suc k) (some x) ts) (k + length before) t
at_new x ts k seen rest [] t after e =
    let i : x ≡ t = cc in counts seen (balise k x) (counting (suc k) (some x) ts) refl (omega arith) (ap body i)
at_new x ts k seen rest (y ∷ before) t after e =
    let i : ts ≡ before ++ t ∷ after = cc in
    let c : Counts (seen ++ (balise k x ∷ [])) (suc k) x = counts seen (balise k x) [] refl (omega arith) refl in
    raised (subst (λ l. Counts l (suc k + length before) t) (append_assoc seen (balise k x ∷ []) (counting (suc k) (some x) ts)) (rest (seen ++ (balise k x ∷ [])) c before t after i)) (omega arith)

on : (u : Option (List Entry)) (x : List Entry) (ts : Telegrams) (k : ℕ) (seen : List Balise) → Looks u x → names_right u x (first ts) ≡ true → Behind seen k u
    → Rest x ts k → (before : Telegrams) (t : List Entry) (after : Telegrams) → x ∷ ts ≡ before ++ t ∷ after
    → Counts (seen ++ counting k u (x ∷ ts)) (k + length before) t
unfolding counting
on none x ts k seen l n b rest before t after e = at_new x ts k seen rest before t after e
on (some w) x ts k seen l n b rest before t after e = by_test (linked (some w) x) refl
  where
    by_test : (c : Bool) → linked (some w) x ≡ c
        → Counts (seen ++ cond c (counting (suc k) (some x) ts) (balise k x ∷ counting (suc k) (some x) ts)) (k + length before) t
    by_test true i = at_copy x ts k seen (copied b (linked_same w x (first ts) l n i)) rest before t after e
    by_test false i = at_new x ts k seen rest before t after e

-- Every balise of a group, with k the N_PIG of the first of ts and seen those before that count: one that counts has its packets, and stands no
-- later.
pub every_counts : (seen : List Balise) (k : ℕ) (u : Option (List Entry)) (ts : Telegrams) → ((t : List Entry) (rest : Telegrams) → ts ≡ t ∷ rest → Looks u t)
    → miscopied k u ts ≡ none → Behind seen k u → (before : Telegrams) (t : List Entry) (after : Telegrams) → ts ≡ before ++ t ∷ after
    → Counts (seen ++ counting k u ts) (k + length before) t
every_counts seen k u [] l h b [] t after e = let z : ◌≡◌ {A = ℕ} 0 1 = cc in absurd (omega arith)
every_counts seen k u [] l h b (x ∷ before) t after e = let z : ◌≡◌ {A = ℕ} 0 1 = cc in absurd (omega arith)
every_counts seen k u (x ∷ ts) l h b before t after e =
    let w = not_wrong k u x ts h in
    on u x ts k seen (l x ts refl) w.0 b
    (λ s c before t after i. every_counts s (suc k) (some x) ts (λ v vs j. looks_on u x ts w.0 v vs j) w.1 c before t after i) before t after e

-- "such copies count once, at the lowest N_PIG": no packet of any balise is lost
pub none_lost : (ts : Telegrams) → miscopied 0 none ts ≡ none → (before : Telegrams) (t : List Entry) (after : Telegrams) → ts ≡ before ++ t ∷ after
    → Counts (counting 0 none ts) (length before) t
none_lost ts h before t after e = raised (every_counts [] 0 none ts (λ t rest i. tt) h tt before t after e) (omega arith)
