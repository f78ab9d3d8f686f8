-- "and rule 3) then holds over the group": of an accepted group a train running either way gets at most one packet of each kind but ETCS-44. Assumes nothing.
use mathlib.Core.Bool.{true}
use mathlib.Core.List.{List, [], ◌∷◌, ◌++◌}
use mathlib.Core.Option.{none}
use mathlib.Core.Path.{◌≡◌, refl, sym, ap, ap₂, ◌∙◌}
use Prim.Native.Nat.{ℕ}
use Rattle.format.specs.Rules.{Terms}
use Rattle.format.specs.Telegrams.{Entry}
use Rattle.laws.proofs.Pairs.{serves}
use Rattle.group.specs.Groups.{Member, collision, message, group}
use Rattle.group.specs.Groups.Message.{lists}
use Rattle.group_laws.proofs.Listing.{In}
use Rattle.laws.proofs.EachWay.{served_clash}
use Rattle.group_laws.proofs.Passing.{message_gives, group_passes}
use Rattle.group_laws.proofs.Ways.{apart}

-- ---- two places of a list

-- the places are one, or the one stands before the other
data Places (ms : List Member) (m o : Member) (x z : List Member) : Type 0 where
  one : x ≡ z → m ≡ o → Places ms m o x z
  first : (a b y : List Member) → ms ≡ a ++ m ∷ (b ++ o ∷ y) → Places ms m o x z
  last : (a b y : List Member) → ms ≡ a ++ o ∷ (b ++ m ∷ y) → Places ms m o x z

places : (ms : List Member) (m o : Member) (x y z w : List Member) → ms ≡ x ++ m ∷ y → ms ≡ z ++ o ∷ w → Places ms m o x z
places ms m o [] y [] w e f = one refl (cc)
places ms m o [] y (v ∷ z) w e f = let i : v ≡ m = cc in first [] z w (f ∙ ap (λ (l : Member). l ∷ (z ++ o ∷ w)) i)
places ms m o (u ∷ x) y [] w e f = let i : u ≡ o = cc in last [] x y (e ∙ ap (λ (l : Member). l ∷ (x ++ m ∷ y)) i)
places ms m o (u ∷ x) y (v ∷ z) w e f =
    let i : u ≡ v = cc in
    let g : x ++ m ∷ y ≡ z ++ o ∷ w = cc in
    by_place i (places (x ++ m ∷ y) m o x y z w refl g)
  where
    by_place : u ≡ v → Places (x ++ m ∷ y) m o x z → Places ms m o (u ∷ x) (v ∷ z)
    by_place i (one a b) = one (ap₂ ◌∷◌ i a) b
    by_place i (first a b c g) = first (u ∷ a) b c (e ∙ ap (λ (l : List Member). u ∷ l) g)
    by_place i (last a b c g) = last (u ∷ a) b c (e ∙ ap (λ (l : List Member). u ∷ l) g)

-- ---- one packet of each kind for each way

-- Two packets of one kind that both count for a train stand at one place.
abbrev pub OneOfEach : List Member → Type 0
OneOfEach ms =
    (way : ℕ) (m o : Member) (i : In m ms) (j : In o ms) → m.id ≡ o.id → (m.id ≡ 44 → ⊥) → serves m.dir way ≡ true → serves o.dir way ≡ true
    → (i.before ≡ j.before) × (m ≡ o)

uncollided_one_each : (ms : List Member) → collision [] ms ≡ none → OneOfEach ms
uncollided_one_each ms h way m o i j k n a b = by_place (places ms m o i.before i.after j.before j.after i.is j.is)
  where
    by_place : Places ms m o i.before j.before → (i.before ≡ j.before) × (m ≡ o)
    by_place (one e f) = (e, f)
    by_place (first x y z e) = absurd (apart [] ms h x m y o z e (sym k) (λ q. n (k ∙ q)) (served_clash way o.dir m.dir b a))
    by_place (last x y z e) = absurd (apart [] ms h x o y m z e k n (served_clash way m.dir o.dir a b))

-- of the message of telegrams, and of a group's, whatever the terms
pub message_one_each : (ts : List (List Entry)) (ms : List Member) → message ts ≡ lists ms → OneOfEach ms
message_one_each ts ms h = uncollided_one_each ms (message_gives ts ms h).apart

pub group_one_each : (p : Terms) (s ns : List ℕ) (room : ℕ) (ms : List Member) → group p s ns room ≡ lists ms → OneOfEach ms
group_one_each p s ns room ms h = uncollided_one_each ms (group_passes p s ns room ms h).gives.apart
