-- One list alone is the answer in words of the telegrams that arrived: sorted lists with the same members are one. Assumes nothing.
use mathlib.Core.List.{List, [], ◌∷◌, ◌++◌}
use mathlib.Core.Logic.{◌⊎◌, inl, inr}
use mathlib.Core.Path.{◌≡◌, refl, sym, ap₂}
use Prim.Native.Nat.{ℕ}
use native.Mathlib.Omega.{arith}
use Rattle.format.specs.Rules.{Terms}
use Rattle.group.specs.Groups.{Member, arrived, parts, group}
use Rattle.group.specs.Groups.Arrived.{all}
use Rattle.group.specs.Groups.Message.{lists}
use Rattle.group_laws.proofs.Listing.{In}
use Rattle.group_laws.proofs.Sorting.{Before, BeforeAll, Sorted, before_at, not_before_self}
use Rattle.group_laws.proofs.Counted.{in_first, in_later, no_in}
use Rattle.group_laws.proofs.Passing.{Telegrams}
use Rattle.group_laws.proofs.Answer.{Answered}
use Rattle.group_laws.proofs.NoneLost.{answer_of}

-- ---- sorted lists

-- it is the first, or stands behind it
in_split : (m o : Member) (l : List Member) → In m (o ∷ l) → (o ≡ m) ⊎ In m l
in_split m o l i = by_place i.before i.after i.is
  where
    by_place : (x y : List Member) → o ∷ l ≡ x ++ m ∷ y → (o ≡ m) ⊎ In m l
    by_place [] y e = inl (cc)
    by_place (v ∷ x) y e = inr (record { before = x; after = y; is = cc })

not_both : (m o : Member) → Before m o → Before o m → ⊥
not_both m o (inl h) (inl k) = omega arith
not_both m o (inl h) (inr k) = let e = k.0 in omega arith
not_both m o (inr h) (inl k) = let e = h.0 in omega arith
not_both m o (inr h) (inr k) = let a = h.1 in let b = k.1 in omega arith

before_in : (m : Member) (l : List Member) → BeforeAll m l → (o : Member) → In o l → Before m o
before_in m l h o i = before_at m l h i.before o i.after i.is

same_first : (x y : Member) (xs ys : List Member) → BeforeAll x xs → BeforeAll y ys → In x (y ∷ ys) → In y (x ∷ xs) → x ≡ y
same_first x y xs ys h k i j = by_both (in_split x y ys i) (in_split y x xs j)
  where
    by_both : (y ≡ x) ⊎ In x ys → (x ≡ y) ⊎ In y xs → x ≡ y
    by_both (inl e) b = sym e
    by_both (inr a) (inl e) = e
    by_both (inr a) (inr b) = absurd (not_both x y (before_in x xs h y b) (before_in y ys k x a))

-- what stands behind the first of one stands behind the first of the other
behind_first_lem : (x y : Member) (xs ys : List Member) → x ≡ y → BeforeAll x xs → (m : Member) → In m xs → (In m (x ∷ xs) → In m (y ∷ ys)) → In m ys
behind_first_lem x y xs ys e h m i on = by_side (in_split m y ys (on (in_later x i)))
  where
    by_side : (y ≡ m) ⊎ In m ys → In m ys
    by_side (inl f) = absurd (not_before_self x m (before_in x xs h m i) (cc))
    by_side (inr j) = j

pub sorted_same : (xs ys : List Member) → Sorted xs → Sorted ys → ((m : Member) → In m xs → In m ys) → ((m : Member) → In m ys → In m xs) → xs ≡ ys
sorted_same [] [] h k f g = refl
sorted_same [] (y ∷ ys) h k f g = no_in y (g y (in_first y ys))
sorted_same (x ∷ xs) [] h k f g = no_in x (f x (in_first x xs))
sorted_same (x ∷ xs) (y ∷ ys) h k f g =
    let e = same_first x y xs ys h.0 k.0 (f x (in_first x xs)) (g y (in_first y ys)) in
    ap₂ ◌∷◌ e (sorted_same xs ys h.1 k.1 (λ m i. behind_first_lem x y xs ys e h.0 m i (f m)) (λ m i. behind_first_lem y x ys xs (sym e) k.0 m i (g m)))

-- ---- answers

pub one_answer : {ts : Telegrams} {ms ls : List Member} → Answered ts ms → Answered ts ls → ms ≡ ls
one_answer {ts} {ms} {ls} a b = sorted_same ms ls a.sorted b.sorted (λ m i. b.every m (a.only m i)) (λ m i. a.every m (b.only m i))

-- so of an accepted group no list but its answer is its answer in words
pub sole_answer : (p : Terms) (s ns : List ℕ) (room : ℕ) (ms : List Member) → group p s ns room ≡ lists ms → (ts : Telegrams) → arrived p 0 (parts s ns) ≡ all ts
    → (ls : List Member) → Answered ts ls → ls ≡ ms
sole_answer p s ns room ms e ts a ls b = one_answer b (answer_of p s ns room ms e ts a)
