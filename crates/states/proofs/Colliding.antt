-- Whether a packet collides with one of those that a look back found. Assumes nothing.
use mathlib.Core.Bool.{Bool, true, false, not, ◌&&◌, ◌||◌}
use mathlib.Core.List.{List, [], ◌∷◌, ◌++◌, reverse, reverse-cons}
use mathlib.Core.Path.{◌≡◌, refl, sym, ap, ◌∙◌}
use Prim.Native.Nat.{ℕ}
use lib.Dec.{eqb}
use Rattle.format.specs.Rules.{Earlier, clash, among, collides_among}

-- whether a packet collides, where it is no ETCS-44
pub told : (i d : ℕ) (l : List Earlier) (b : Bool) → eqb i 44 ≡ false → among clash i d l ≡ b → b ≡ collides_among clash i d l
told i d l b n e = simp (n, e)

pub none_told : (i d : ℕ) (l : List Earlier) → eqb i 44 ≡ true → false ≡ collides_among clash i d l
none_told i d l e = simp e

-- among packets, and then others
among_append : (collide : ℕ → ℕ → Bool) (i d : ℕ) (l m : List Earlier)
    → among collide i d (l ++ m) ≡ (among collide i d l || among collide i d m)
unfolding among
among_append collide i d [] m = refl
among_append collide i d (e ∷ l) m =
    ap (λ (x : Bool). eqb i e.id && collide d e.dir || x) (among_append collide i d l m)
    ∙ joined (eqb i e.id && collide d e.dir) (among collide i d l) (among collide i d m)
  where
    joined : (a b c : Bool) → (a || (b || c)) ≡ ((a || b) || c)
    joined true b c = refl
    joined false b c = refl

-- in the other order
among_reverse : (collide : ℕ → ℕ → Bool) (i d : ℕ) (l : List Earlier) → among collide i d (reverse l) ≡ among collide i d l
unfolding among
among_reverse collide i d [] = refl
among_reverse collide i d (e ∷ l) =
    ap (among collide i d) (reverse-cons e l)
    ∙ among_append collide i d (reverse l) (e ∷ [])
    ∙ ap (λ (x : Bool). x || among collide i d (e ∷ [])) (among_reverse collide i d l)
    ∙ swapped (among collide i d l) (eqb i e.id && collide d e.dir)
  where
    swapped : (a b : Bool) → (a || (b || false)) ≡ (b || a)
    swapped true true = refl
    swapped true false = refl
    swapped false true = refl
    swapped false false = refl

-- what was found in order of sending, and what the context has, the latest first: a packet collides with one just where it does with the other
pub found_back : (i d : ℕ) {before : List Earlier} (l : List Earlier) {r : Bool} → before ≡ reverse l → r ≡ collides_among clash i d before
    → collides_among clash i d l ≡ r
found_back i d l e h =
    ap (λ (x : Bool). not (eqb i 44) && x) (sym (ap (among clash i d) e ∙ among_reverse clash i d l)) ∙ sym h
