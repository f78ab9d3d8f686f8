-- The sixteen places of a NID_RADIO: those that are read have a character each. Assumes nothing.
use mathlib.Core.Path.{◌≡◌, refl, sym, ap, ◌∙◌, subst}
use mathlib.Core.Bool.{Bool, true, false, cond}
use mathlib.Core.List.{List, [], ◌∷◌}
use mathlib.Core.Logic.{inl, inr}
use mathlib.Core.Option.{Option, some, none}
use Prim.Native.Nat.{ℕ, zero, suc, ◌+◌, ◌*◌, ◌/◌, ◌%◌, ◌^◌, ◌<◌}
use native.Mathlib.Nat.{pow-suc, div-div-eq-div-mul, add-zero}
use native.Mathlib.Omega.{arith}
use borrow.Author.Tests.{leb-true}
use lib.Dec.{leb}
use Rattle.pieces.specs.Numbers.{Found, place_of, is_place, places_from, counted, sixteen_in}
use Rattle.pieces.proofs.Sixteens.{Placed, place_small, place_letter, lettered_digit}
use Rattle.pieces.proofs.Sixteens as sixteens
use Rattle.sheet.proofs.Readable.{placed_all}
use Rattle.entrances.specs.Rows.{Lettered}

-- ---- one place

to_place : (d : ℕ) → Lettered d → sixteens.Lettered d
to_place d (inl h) = lettered_digit d h
to_place d (inr e) = rw e

from_place : (d : ℕ) → sixteens.Lettered d → Lettered d
from_place d l = by (leb d 9) refl l
  where
    by : (b : Bool) → leb d 9 ≡ b → place_of (cond b (48 + d) 70) ≡ d → Lettered d
    by true e z = inl (leb-true d 9 e)
    by false e z = inr (sym z)

-- ---- all of them

pub to_placed : (v : ℕ) → ((k : ℕ) → k < 16 → Lettered (v / 16 ^ k % 16)) → Placed 16 v
to_placed v f = placed_all 16 v (λ k h. to_place (v / 16 ^ k % 16) (f k h))

pub from_placed : (n v : ℕ) → Placed n v → (k : ℕ) → k < n → Lettered (v / 16 ^ k % 16)
from_placed zero v p k h = absurd (omega arith)
from_placed (suc n) v p zero h = subst (λ (x : ℕ). Lettered (x % 16)) (omega arith) (from_place (v % 16) p.0)
from_placed (suc n) v p (suc k) h =
    let power : 16 * 16 ^ k ≡ 16 ^ suc k = omega (arith, pow-suc 16 k) in
    subst (λ (x : ℕ). Lettered (x % 16)) (div-div-eq-div-mul v 16 (16 ^ k) ∙ ap (λ (x : ℕ). v / x) power) (from_placed n (v / 16) p.1 k (omega arith))

-- ---- and as they are read

placed_on : (k v c : ℕ) → is_place c ≡ true → Placed k v → Placed (suc k) (16 * v + place_of c)
placed_on k v c e p =
    let s = place_small c e in
    let q : (16 * v + place_of c) / 16 ≡ v = omega arith in
    let r : (16 * v + place_of c) % 16 ≡ place_of c = omega arith in
    (rw r (ap place_of (place_letter c e)), rw q p)

placed_read : (k j v : ℕ) (text : List ℕ) (w : ℕ) → Placed j v → places_from k v text ≡ some w → Placed (j + k) w
unfolding places_from
placed_read zero j v text w p e = let s : v ≡ w = cc in rw (add-zero j, ← s) p
placed_read (suc k) j v [] w p e = let z : ◌≡◌ {A = ℕ} 0 1 = cc in absurd (omega arith)
placed_read (suc k) j v (c ∷ text) w p e = by (is_place c) refl (placed_read k (suc j) (16 * v + place_of c) text w) e
  where
    by : (b : Bool) → is_place c ≡ b
        → (Placed (suc j) (16 * v + place_of c) → places_from k (16 * v + place_of c) text ≡ some w → Placed (suc j + k) w)
        → cond b (places_from k (16 * v + place_of c) text) none ≡ some w → Placed (j + suc k) w
    by true h ih x = let all : suc j + k ≡ j + suc k = omega arith in rw (← all) (ih (placed_on j v c h p) x)
    by false h ih x = let z : ◌≡◌ {A = ℕ} 0 1 = cc in absurd (omega arith)

pub sixteen_placed : (text : List ℕ) (x : Found) → sixteen_in text ≡ some x → Placed 16 x.value
unfolding sixteen_in
sixteen_placed text x e = by (places_from 16 0 text) refl e
  where
    by : (o : Option ℕ) → places_from 16 0 text ≡ o → counted 16 o ≡ some x → Placed 16 x.value
    by none h z = let q : ◌≡◌ {A = ℕ} 0 1 = cc in absurd (omega arith)
    by (some w) h z = let s : w ≡ x.value = cc in subst (Placed 16) s (placed_read 16 0 0 text w tt h)
