-- "such copies count once": M_DUP names a neighbour, and of the balises that count none names another that counts. Assumes nothing.
use mathlib.Core.Bool.{Bool, true, false, ◌||◌}
use mathlib.Core.List.{List, [], ◌∷◌, ◌++◌}
use mathlib.Core.Option.{Option, some, none}
use mathlib.Core.Path.{◌≡◌, refl, sym, ap, ◌∙◌}
use Prim.Native.Nat.{suc}
use native.Mathlib.Omega.{arith}
use borrow.Author.Tests.{eqb-false}
use lib.Dec.{eqb}
use lib.ListN.{length}
use Rattle.format.specs.Fields.{M_DUP}
use Rattle.format.specs.Telegrams.{Entry}
use Rattle.group.specs.Groups.{Balise, held, linked, counting}
use Rattle.group_laws.proofs.Listing.{In}
use Rattle.group_laws.proofs.Counted.{previous_of, only_counted}

abbrev Telegrams : Type 0
Telegrams = List (List Entry)

-- the one before is the last of those before
pub previous_is : (u : Option (List Entry)) (ts xs : Telegrams) (t : List Entry) (ys zs : Telegrams) (w : List Entry) (vs : Telegrams) → ts ≡ xs ++ t ∷ ys → ts ≡ zs ++ w ∷ vs
    → length zs ≡ suc (length xs) → previous_of u zs ≡ some t
previous_is u ts [] t ys [] w vs e f n = absurd (omega arith)
previous_is u ts [] t ys (z ∷ []) w vs e f n = let i : z ≡ t = cc in ap some i
previous_is u ts [] t ys (z ∷ y ∷ zs) w vs e f n = absurd (omega arith)
previous_is u ts (x ∷ xs) t ys [] w vs e f n = absurd (omega arith)
previous_is u ts (x ∷ xs) t ys (z ∷ zs) w vs e f n =
    let g : xs ++ t ∷ ys ≡ zs ++ w ∷ vs = cc in
    previous_is (some z) (xs ++ t ∷ ys) xs t ys zs w vs refl g (omega arith)

unlinked : (u t : List Entry) → linked (some u) t ≡ false → (eqb (held M_DUP u) 1 ≡ false) × (eqb (held M_DUP t) 2 ≡ false)
unlinked u t h = by_tests (eqb (held M_DUP u) 1) (eqb (held M_DUP t) 2) h
  where
    by_tests : (a b : Bool) → (a || b) ≡ false → (a ≡ false) × (b ≡ false)
    by_tests true b h = (h, cc)
    by_tests false b h = (refl, h)

-- a balise that counts, and the one before it, whether that counts or not
pub counted_free : (ts : Telegrams) (c : Balise) → In c (counting 0 none ts) → (before : Telegrams) (t : List Entry) (after : Telegrams) → ts ≡ before ++ t ∷ after → c.pig ≡ suc (length before)
    → (held M_DUP t ≡ 1 → ⊥) × (held M_DUP c.telegram ≡ 2 → ⊥)
counted_free ts c i before t after e n =
    let d = only_counted 0 none ts c i in
    let p = d.pig in
    let q = previous_is none ts before t after d.before c.telegram d.after e d.is (omega arith) in
    let f = unlinked t c.telegram (ap (λ (o : Option (List Entry)). linked o c.telegram) (sym q) ∙ d.free) in
    (eqb-false (held M_DUP t) 1 f.0, eqb-false (held M_DUP c.telegram) 2 f.1)

-- "M_DUP 1 or 2 names the next or the previous balise"
pub data Names (b c : Balise) : Type 0 where
  next : held M_DUP b.telegram ≡ 1 → c.pig ≡ suc b.pig → Names b c
  previous : held M_DUP b.telegram ≡ 2 → b.pig ≡ suc c.pig → Names b c

-- "such copies count once": of those that count none names another
pub no_copies : (ts : Telegrams) (b c : Balise) → In b (counting 0 none ts) → In c (counting 0 none ts) → Names b c → ⊥
no_copies ts b c i j (next d n) =
    let k = only_counted 0 none ts b i in
    let p = k.pig in
    (counted_free ts c j k.before b.telegram k.after k.is (omega arith)).0 d
no_copies ts b c i j (previous d n) =
    let k = only_counted 0 none ts c j in
    let p = k.pig in
    (counted_free ts b i k.before c.telegram k.after k.is (omega arith)).1 d
