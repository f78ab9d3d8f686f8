-- An answer is known by its number and its value: no two answers have the same. Assumes nothing.
use Rattle.std.specs.Prelude.{Ok, Err}
use mathlib.Core.Bool.{true}
use mathlib.Core.List.{[], ◌∷◌}
use mathlib.Core.Path.{◌≡◌, refl, sym, ap, ap₂, ◌∙◌}
use Prim.Native.Nat.{ℕ, ◌≤◌}
use native.Mathlib.Omega.{arith}
use borrow.Author.Tests.{leb-true}
use lib.Dec.{leb}
use lib.ListN.{get_or}
use Rattle.format.specs.Refusals.{number_of, in_numbers, Answer}
use Rattle.format.specs.declared.Kind.{Kind}
use Rattle.format.specs.declared.Kind.TheVariants.{Room, Size, Padding, Header, Ended, Unknown, Value, Length, Direction, Repeated, Trailing, Wide, Full}
use Rattle.format.specs.declared.Refusal.{Refusal}

-- the numbers of refusals are 1 to 13; 0 is no refusal's
in_range : (k : Kind) → (leb 1 (number_of k) ≡ true) × (leb (number_of k) 13 ≡ true)
in_range Room = (refl, refl)
in_range Size = (refl, refl)
in_range Padding = (refl, refl)
in_range Header = (refl, refl)
in_range Ended = (refl, refl)
in_range Unknown = (refl, refl)
in_range Value = (refl, refl)
in_range Length = (refl, refl)
in_range Direction = (refl, refl)
in_range Repeated = (refl, refl)
in_range Trailing = (refl, refl)
in_range Wide = (refl, refl)
in_range Full = (refl, refl)

pub number_in : (k : Kind) → (1 ≤ number_of k) × (number_of k ≤ 13)
number_in k = (leb-true 1 (number_of k) (in_range k).0, leb-true (number_of k) 13 (in_range k).1)

-- a kind is known by its number
kind_of : ℕ → Kind
kind_of n = get_or (Room ∷ Room ∷ Size ∷ Padding ∷ Header ∷ Ended ∷ Unknown ∷ Value ∷ Length ∷ Direction ∷ Repeated ∷ Trailing ∷ Wide ∷ Full ∷ []) n Room

kind_is : (k : Kind) → kind_of (number_of k) ≡ k
unfolding kind_of
kind_is Room = refl
kind_is Size = refl
kind_is Padding = refl
kind_is Header = refl
kind_is Ended = refl
kind_is Unknown = refl
kind_is Value = refl
kind_is Length = refl
kind_is Direction = refl
kind_is Repeated = refl
kind_is Trailing = refl
kind_is Wide = refl
kind_is Full = refl

pub kind_by_number : (j k : Kind) → number_of j ≡ number_of k → j ≡ k
kind_by_number j k h = sym (kind_is j) ∙ ap kind_of h ∙ kind_is k

-- a refusal by its number and its place
pub refusal_is : (r q : Refusal) → number_of r.kind ≡ number_of q.kind → r.place ≡ q.place → r ≡ q
refusal_is r q k p = ap₂ (λ (kind : Kind) (place : ℕ). record { kind = kind; place = place }) (kind_by_number r.kind q.kind k) p

-- two answers with the same numbers have the same number, and the same value
pub number_same : {x y : ℕ × ℕ} → x ≡ y → x.0 ≡ y.0
number_same h = ap (λ (x : ℕ × ℕ). x.0) h

pub value_same : {x y : ℕ × ℕ} → x ≡ y → x.1 ≡ y.1
value_same h = ap (λ (x : ℕ × ℕ). x.1) h

pub answer_is : (a b : Answer) → in_numbers a ≡ in_numbers b → a ≡ b
answer_is (Ok m) (Ok n) h = ap Ok (value_same h)
answer_is (Ok m) (Err q) h = let i = number_in q.kind in absurd (omega (arith, number_same h))
answer_is (Err r) (Ok n) h = let i = number_in r.kind in absurd (omega (arith, number_same h))
answer_is (Err r) (Err q) h = ap Err (refusal_is r q (number_same h) (value_same h))
