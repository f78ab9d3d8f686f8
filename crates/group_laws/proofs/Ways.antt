-- "and rule 3) then holds over the group": a train running either way gets at most one packet of each kind but ETCS-44. Assumes nothing.
use mathlib.Core.Bool.{Bool, true, false, cond, ◌&&◌, or-true}
use mathlib.Core.List.{List, [], ◌∷◌, ◌++◌}
use mathlib.Core.Option.{Option, some, none}
use mathlib.Core.Path.{◌≡◌, ap, ◌∙◌}
use Prim.Native.Nat.{ℕ}
use native.Mathlib.Omega.{arith}
use borrow.Author.Tests.{eq-eqb, ne_eqb}
use lib.Dec.{eqb}
use Rattle.format.specs.Rules.{Earlier, clash, among, collides_among}
use Rattle.group.specs.Groups.{Member, collision}

abbrev earlier_of : Member → Earlier
earlier_of m = record { id = m.id; dir = m.dir }

-- ---- a packet that stands among those before

pub among_here : (i d : ℕ) (e : Earlier) (a b : List Earlier) → i ≡ e.id → clash d e.dir ≡ true → among clash i d (a ++ e ∷ b) ≡ true
unfolding among
among_here i d e [] b h k = rw (eq-eqb i e.id h, k)
among_here i d e (x ∷ a) b h k = rw (among_here i d e a b h k) (or-true (eqb i x.id && clash d x.dir))

pub goes_on_lem : (w : Member) (ms : List Member) (seen : List Earlier) → collision seen (w ∷ ms) ≡ none → collision (earlier_of w ∷ seen) ms ≡ none
unfolding collision
goes_on_lem w ms seen h = by_test (collides_among clash w.id w.dir seen) h
  where
    by_test : (t : Bool) → cond t (some w) (collision (earlier_of w ∷ seen) ms) ≡ none → collision (earlier_of w ∷ seen) ms ≡ none
    by_test true g = let z : ◌≡◌ {A = ℕ} 0 1 = cc in absurd (omega arith)
    by_test false g = g

-- what is no collision, is not one with those seen nor with those in between
pub uncollided_at : (seen : List Earlier) (ms : List Member) → collision seen ms ≡ none → (x : List Member) (m : Member) (y : List Member) → ms ≡ x ++ m ∷ y
    → (e : Earlier) (a b : List Earlier) → seen ≡ a ++ e ∷ b → m.id ≡ e.id → (m.id ≡ 44 → ⊥) → clash m.dir e.dir ≡ true → ⊥
unfolding collision
uncollided_at seen [] h [] m y i e a b j k n c = let z : ◌≡◌ {A = ℕ} 0 1 = cc in absurd (omega arith)
uncollided_at seen [] h (w ∷ x) m y i e a b j k n c = let z : ◌≡◌ {A = ℕ} 0 1 = cc in absurd (omega arith)
uncollided_at seen (w ∷ ms) h [] m y i e a b j k n c =
    let q : w ≡ m = cc in
    let met : among clash m.id m.dir seen ≡ true = ap (among clash m.id m.dir) j ∙ among_here m.id m.dir e a b k c in
    let z : ◌≡◌ {A = Option Member} (some m) none = (rw (q, ne_eqb m.id 44 n, met) at h) in
    let one : ◌≡◌ {A = ℕ} 0 1 = cc in
    absurd (omega arith)
uncollided_at seen (w ∷ ms) h (v ∷ x) m y i e a b j k n c =
    uncollided_at (earlier_of w ∷ seen) ms (goes_on_lem w ms seen h) x m y (cc) e (earlier_of w ∷ a) b (ap (λ l. earlier_of w ∷ l) j) k n c

-- of two packets of a message
pub apart : (seen : List Earlier) (ms : List Member) → collision seen ms ≡ none → (x : List Member) (m : Member) (y : List Member) (o : Member) (z : List Member)
    → ms ≡ x ++ m ∷ (y ++ o ∷ z) → o.id ≡ m.id → (o.id ≡ 44 → ⊥) → clash o.dir m.dir ≡ true → ⊥
unfolding collision
apart seen [] h [] m y o z i k n c = let z : ◌≡◌ {A = ℕ} 0 1 = cc in absurd (omega arith)
apart seen [] h (w ∷ x) m y o z i k n c = let z : ◌≡◌ {A = ℕ} 0 1 = cc in absurd (omega arith)
apart seen (w ∷ ms) h [] m y o z i k n c =
    let q : w ≡ m = cc in
    uncollided_at (earlier_of w ∷ seen) ms (goes_on_lem w ms seen h) y o z (cc) (earlier_of m) [] seen (ap (λ v. earlier_of v ∷ seen) q) k n c
apart seen (w ∷ ms) h (v ∷ x) m y o z i k n c =
    apart (earlier_of w ∷ seen) ms (goes_on_lem w ms seen h) x m y o z (cc) k n c
