-- What is listed is just the packets of the balises that count, and a balise counts just where it and the one before it do not name each other. Assumes nothing.
use mathlib.Core.Bool.{Bool, true, false, cond}
use mathlib.Core.List.{List, [], ◌∷◌, ◌++◌, append_assoc}
use mathlib.Core.Logic.{◌⊎◌, inl, inr}
use mathlib.Core.Option.{Option, some, none}
use mathlib.Core.Path.{◌≡◌, refl, sym, ap, ◌∙◌, subst}
use Prim.Native.Nat.{ℕ, suc, ◌+◌, ◌<◌}
use native.Mathlib.Omega.{arith}
use lib.ListN.{length, length-append}
use Rattle.format.specs.Telegrams.{Entry}
use Rattle.group.specs.Groups.{Member, Balise, linked, counting, packets_of, listed}
use Rattle.group_laws.proofs.Listing.{In}
use Rattle.group_laws.proofs.Sorting.{packet_pig}

abbrev Telegrams : Type 0
Telegrams = List (List Entry)

-- ---- standing in lists

pub in_first : {A : Type 0} (a : A) (l : List A) → In a (a ∷ l)
in_first a l = record { before = []; after = l; is = refl }

pub in_later : {A : Type 0} {a : A} {l : List A} (b : A) → In a l → In a (b ∷ l)
in_later b i = record { before = b ∷ i.before; after = i.after; is = ap (λ l. b ∷ l) i.is }

pub in_left : {A : Type 0} {a : A} {l : List A} (m : List A) → In a l → In a (l ++ m)
in_left {a = a} m i = record { before = i.before; after = i.after ++ m; is = ap (λ l. l ++ m) i.is ∙ append_assoc i.before (a ∷ i.after) m }

pub in_right : {A : Type 0} {a : A} {l : List A} (m : List A) → In a l → In a (m ++ l)
in_right {a = a} m i = record { before = m ++ i.before; after = i.after; is = ap (λ l. m ++ l) i.is ∙ sym (append_assoc m i.before (a ∷ i.after)) }

pub in_both : {A : Type 0} (a : A) (l m : List A) → (x y : List A) → l ++ m ≡ x ++ a ∷ y → In a l ⊎ In a m
in_both a [] m x y e = inr (record { before = x; after = y; is = e })
in_both a (b ∷ l) m [] y e = let i : b ≡ a = cc in inl (record { before = []; after = l; is = ap (λ c. c ∷ l) i })
in_both a (b ∷ l) m (c ∷ x) y e = by_side (in_both a l m x y (cc))
  where
    by_side : In a l ⊎ In a m → In a (b ∷ l) ⊎ In a m
    by_side (inl i) = inl (in_later b i)
    by_side (inr i) = inr i

pub no_in : {A B : Type 0} (a : A) → In a [] → B
no_in a i = let e = ap length i.is in let n = length-append i.before (a ∷ i.after) in absurd (omega arith)

-- ---- which balises count

-- the last of these, or the one before them
abbrev pub previous_of : Option (List Entry) → Telegrams → Option (List Entry)
previous_of u [] = u
previous_of u (x ∷ xs) = previous_of (some x) xs

-- one that counts: where it stands, and that it and the one before it do not name each other
pub record CountsAt (k : ℕ) (u : Option (List Entry)) (ts : Telegrams) (b : Balise) : Type 0 where
  pub before : Telegrams
  pub after : Telegrams
  pub is : ts ≡ before ++ b.telegram ∷ after
  pub pig : b.pig ≡ k + length before
  pub free : linked (previous_of u before) b.telegram ≡ false

abbrev balise : ℕ → List Entry → Balise
balise k t = record { pig = k; telegram = t }

pub only_counted : (k : ℕ) (u : Option (List Entry)) (ts : Telegrams) (b : Balise) → In b (counting k u ts) → CountsAt k u ts b
unfolding counting
only_counted k u [] b i = no_in b i
only_counted k u (t ∷ ts) b i = by_test (linked u t) refl i (λ j. only_counted (suc k) (some t) ts b j)
  where
    further : CountsAt (suc k) (some t) ts b → CountsAt k u (t ∷ ts) b
    further c = let p = c.pig in record { before = t ∷ c.before; after = c.after; is = ap (λ l. t ∷ l) c.is; pig = omega arith; free = c.free }

    by_place : linked u t ≡ false → (x y : List Balise) → balise k t ∷ counting (suc k) (some t) ts ≡ x ++ b ∷ y
        → (In b (counting (suc k) (some t) ts) → CountsAt (suc k) (some t) ts b) → CountsAt k u (t ∷ ts) b
    by_place f [] y e on =
        let j : balise k t ≡ b = cc in
        subst (CountsAt k u (t ∷ ts)) j (record { before = []; after = ts; is = refl; pig = omega arith; free = f })
    by_place f (v ∷ x) y e on = further (on (record { before = x; after = y; is = cc }))

    by_test : (c : Bool) → linked u t ≡ c → In b (cond c (counting (suc k) (some t) ts) (balise k t ∷ counting (suc k) (some t) ts))
        → (In b (counting (suc k) (some t) ts) → CountsAt (suc k) (some t) ts b) → CountsAt k u (t ∷ ts) b
    by_test true f j on = further (on j)
    by_test false f j on = by_place f j.before j.after j.is on

found : (k : ℕ) (u : Option (List Entry)) (ts before : Telegrams) (t : List Entry) (after : Telegrams) (j : ℕ) → ts ≡ before ++ t ∷ after
    → j ≡ k + length before → linked (previous_of u before) t ≡ false → In (balise j t) (counting k u ts)
unfolding counting
found k u [] [] t after j e p f = let q : ◌≡◌ {A = ℕ} 0 1 = cc in absurd (omega arith)
found k u [] (y ∷ before) t after j e p f = let q : ◌≡◌ {A = ℕ} 0 1 = cc in absurd (omega arith)
found k u (x ∷ ts) [] t after j e p f =
    let i : x ≡ t = cc in
    let g : j ≡ k = omega arith in
    rw (i, f, g) (in_first (balise k t) (counting (suc k) (some t) ts))
found k u (x ∷ ts) (y ∷ before) t after j e p f =
    let i : x ≡ y = cc in
    let n : ts ≡ before ++ t ∷ after = cc in
    by_test (linked u x) (found (suc k) (some x) ts before t after j n (omega arith) (rw i f))
  where
    by_test : (c : Bool) → In (balise j t) (counting (suc k) (some x) ts) → In (balise j t) (cond c (counting (suc k) (some x) ts) (balise k x ∷ counting (suc k) (some x) ts))
    by_test true h = h
    by_test false h = in_later (balise k x) h

pub every_counted : (k : ℕ) (u : Option (List Entry)) (ts : Telegrams) (b : Balise) → CountsAt k u ts b → In b (counting k u ts)
every_counted k u ts b c = found k u ts c.before b.telegram c.after b.pig c.is c.pig c.free

-- ---- and what is listed

from_balise : (bs : List Balise) (m : Member) → In m (listed bs) → (b : Balise) × (In b bs × In m (packets_of b))
from_balise [] m i = no_in m i
from_balise (b ∷ bs) m i = by_side (in_both m (packets_of b) (listed bs) i.before i.after i.is) (λ j. from_balise bs m j)
  where
    by_side : In m (packets_of b) ⊎ In m (listed bs) → (In m (listed bs) → (c : Balise) × (In c bs × In m (packets_of c)))
        → (c : Balise) × (In c (b ∷ bs) × In m (packets_of c))
    by_side (inl j) on = (b, (in_first b bs, j))
    by_side (inr j) on = let r = on j in (r.0, (in_later b r.1.0, r.1.1))

listed_both : (xs ys : List Balise) → listed (xs ++ ys) ≡ listed xs ++ listed ys
listed_both [] ys = refl
listed_both (x ∷ xs) ys = ap (λ l. packets_of x ++ l) (listed_both xs ys) ∙ sym (append_assoc (packets_of x) (listed xs) (listed ys))

-- where a packet of a message comes from: a balise that counts, with its N_PIG, and it is one of its packets
pub record Comes (ts : Telegrams) (m : Member) : Type 0 where
  pub balise : Balise
  pub counts : CountsAt 0 none ts balise
  pub pig : m.pig ≡ balise.pig
  pub packet : In m (packets_of balise)

-- nothing else is listed
pub only_these : (ts : Telegrams) (m : Member) → In m (listed (counting 0 none ts)) → Comes ts m
only_these ts m i =
    let r = from_balise (counting 0 none ts) m i in
    record { balise = r.0; counts = only_counted 0 none ts r.0 r.1.0; pig = packet_pig r.0 m r.1.1; packet = r.1.1 }

-- and each of them is
pub all_these : (ts : Telegrams) (b : Balise) → CountsAt 0 none ts b → (m : Member) → In m (packets_of b) → In m (listed (counting 0 none ts))
all_these ts b c m i =
    let j = every_counted 0 none ts b c in
    subst (In m) (sym (ap listed j.is ∙ listed_both j.before (b ∷ j.after))) (in_right (listed j.before) (in_left (listed j.after) i))

-- "each packet's N_PIG": below the number of the telegrams
pub pig_below : (ts : Telegrams) (m : Member) → In m (listed (counting 0 none ts)) → m.pig < length ts
pig_below ts m i =
    let c = only_these ts m i in
    let n = ap length c.counts.is ∙ length-append c.counts.before (c.balise.telegram ∷ c.counts.after) in
    let p = c.pig in
    let q = c.counts.pig in
    omega arith
