-- "each packet's N_PIG and its number in its telegram from 0, in that order": what is listed is sorted, so that each stands once. Assumes nothing.
use mathlib.Core.Bool.{Bool, true, false, cond}
use mathlib.Core.List.{List, [], ◌∷◌, ◌++◌}
use mathlib.Core.Logic.{◌⊎◌, inl, inr}
use mathlib.Core.Option.{Option, some}
use mathlib.Core.Path.{◌≡◌, refl, sym, ap, ◌∙◌, subst}
use Prim.Native.Nat.{ℕ, suc, ◌+◌, ◌≤◌, ◌<◌}
use native.Mathlib.Omega.{arith}
use Rattle.format.specs.Fields.{NID_PACKET, Q_DIR}
use Rattle.format.specs.Telegrams.{Entry, divided, bit_count}
use Rattle.group.specs.Groups.{Member, Balise, held, linked, counting, is_packet, packets_from, packets_of, listed}
use Rattle.group_laws.proofs.Listing.{In}

abbrev Telegrams : Type 0
Telegrams = List (List Entry)

-- ---- sorted

-- by N_PIG, then by number in the telegram
abbrev pub Before : Member → Member → Type 0
Before m o = (m.pig < o.pig) ⊎ ((m.pig ≡ o.pig) × (m.number < o.number))

abbrev pub BeforeAll : Member → List Member → Type 0
BeforeAll m [] = Unit
BeforeAll m (o ∷ os) = Before m o × BeforeAll m os

-- each stands before each later one
abbrev pub Sorted : List Member → Type 0
Sorted [] = Unit
Sorted (m ∷ ms) = BeforeAll m ms × Sorted ms

pub before_at : (m : Member) (ms : List Member) → BeforeAll m ms → (y : List Member) (o : Member) (z : List Member) → ms ≡ y ++ o ∷ z → Before m o
before_at m [] h [] o z e = let q : ◌≡◌ {A = ℕ} 0 1 = cc in absurd (omega arith)
before_at m [] h (v ∷ y) o z e = let q : ◌≡◌ {A = ℕ} 0 1 = cc in absurd (omega arith)
before_at m (w ∷ ms) h [] o z e = let i : w ≡ o = cc in subst (Before m) i h.0
before_at m (w ∷ ms) h (v ∷ y) o z e = before_at m ms h.1 y o z (cc)

pub sorted_at_lem : (ms : List Member) → Sorted ms → (x : List Member) (m : Member) (y : List Member) (o : Member) (z : List Member) → ms ≡ x ++ m ∷ (y ++ o ∷ z) → Before m o
sorted_at_lem [] h [] m y o z e = let q : ◌≡◌ {A = ℕ} 0 1 = cc in absurd (omega arith)
sorted_at_lem [] h (v ∷ x) m y o z e = let q : ◌≡◌ {A = ℕ} 0 1 = cc in absurd (omega arith)
sorted_at_lem (w ∷ ms) h [] m y o z e =
    let i : w ≡ m = cc in
    subst (λ (v : Member). Before v o) i (before_at w ms h.0 y o z (cc))
sorted_at_lem (w ∷ ms) h (v ∷ x) m y o z e = sorted_at_lem ms h.1 x m y o z (cc)

pub not_before_self : (m o : Member) → Before m o → m ≡ o → ⊥
not_before_self m o (inl h) e = let i = ap (λ (x : Member). x.pig) e in omega arith
not_before_self m o (inr h) e = let i = ap (λ (x : Member). x.number) e in let j = h.1 in omega arith

-- "each once": no two of a sorted list are one
pub once_each : (ms : List Member) → Sorted ms → (x : List Member) (m : Member) (y : List Member) (o : Member) (z : List Member) → ms ≡ x ++ m ∷ (y ++ o ∷ z) → m ≡ o → ⊥
once_each ms h x m y o z e i = not_before_self m o (sorted_at_lem ms h x m y o z e) i

-- ---- the packets of one telegram

-- all with this N_PIG, and numbers from j on
abbrev Numbered : ℕ → ℕ → List Member → Type 0
Numbered k j [] = Unit
Numbered k j (m ∷ ms) = (m.pig ≡ k) × ((j ≤ m.number) × Numbered k j ms)

-- all with an N_PIG from k on
abbrev Past : ℕ → List Member → Type 0
Past k [] = Unit
Past k (m ∷ ms) = (k ≤ m.pig) × Past k ms

fewer : (k j : ℕ) (ms : List Member) → Numbered k (suc j) ms → Numbered k j ms
fewer k j [] h = tt
fewer k j (m ∷ ms) h = let i = h.1.0 in (h.0, (omega arith, fewer k j ms h.1.1))

behind : (m : Member) (k j : ℕ) (ms : List Member) → m.pig ≡ k → m.number < j → Numbered k j ms → BeforeAll m ms
behind m k j [] e n h = tt
behind m k j (o ∷ ms) e n h = let i = h.1.0 in (inr (e ∙ sym h.0, omega arith), behind m k j ms e n h.1.1)

module _ (k : ℕ) where
  from_numbered : (j at : ℕ) (ps : List (List Entry)) → Numbered k j (packets_from k j at ps) × Sorted (packets_from k j at ps)
  unfolding packets_from
  from_numbered j at [] = (tt, tt)
  from_numbered j at (p ∷ ps) = by_test (is_packet p) (from_numbered (suc j) (at + bit_count p) ps) (from_numbered j at ps)
    where
      first : Member
      first = record { pig = k; number = j; id = held NID_PACKET p; dir = held Q_DIR p; at = at + NID_PACKET.width }

      by_test : (c : Bool) → Numbered k (suc j) (packets_from k (suc j) (at + bit_count p) ps) × Sorted (packets_from k (suc j) (at + bit_count p) ps)
          → Numbered k j (packets_from k j at ps) × Sorted (packets_from k j at ps)
          → Numbered k j (cond c (first ∷ packets_from k (suc j) (at + bit_count p) ps) (packets_from k j at ps))
          × Sorted (cond c (first ∷ packets_from k (suc j) (at + bit_count p) ps) (packets_from k j at ps))
      by_test true one other = (
        (refl, (omega arith, fewer k j (packets_from k (suc j) (at + bit_count p) ps) one.0)),
        (behind first k (suc j) (packets_from k (suc j) (at + bit_count p) ps) refl (omega arith) one.0, one.1),
      )
      by_test false one other = other

numbered_at : (k j : ℕ) (ms : List Member) → Numbered k j ms → (x : List Member) (m : Member) (y : List Member) → ms ≡ x ++ m ∷ y → m.pig ≡ k
numbered_at k j [] h [] m y e = let q : ◌≡◌ {A = ℕ} 0 1 = cc in absurd (omega arith)
numbered_at k j [] h (v ∷ x) m y e = let q : ◌≡◌ {A = ℕ} 0 1 = cc in absurd (omega arith)
numbered_at k j (w ∷ ms) h [] m y e = let i : w ≡ m = cc in sym (ap (λ (v : Member). v.pig) i) ∙ h.0
numbered_at k j (w ∷ ms) h (v ∷ x) m y e = numbered_at k j ms h.1.1 x m y (cc)

-- each has its balise's N_PIG
pub packet_pig : (b : Balise) (m : Member) → In m (packets_of b) → m.pig ≡ b.pig
packet_pig b m i =
    numbered_at b.pig 0 (packets_of b) (from_numbered b.pig 0 (bit_count (divided b.telegram).header) (divided b.telegram).packets).0 i.before m i.after i.is

pub packets_sorted : (b : Balise) → Sorted (packets_of b)
packets_sorted b = (from_numbered b.pig 0 (bit_count (divided b.telegram).header) (divided b.telegram).packets).1

-- ---- of all that count

before_past : (m : Member) (k : ℕ) (ms : List Member) → m.pig ≡ k → Past (suc k) ms → BeforeAll m ms
before_past m k [] e h = tt
before_past m k (o ∷ ms) e h = let i = h.0 in (inl (omega arith), before_past m k ms e h.1)

before_both : (m : Member) (xs ys : List Member) → BeforeAll m xs → BeforeAll m ys → BeforeAll m (xs ++ ys)
before_both m [] ys h i = i
before_both m (x ∷ xs) ys h i = (h.0, before_both m xs ys h.1 i)

sorted_both : (k j : ℕ) (xs ys : List Member) → Numbered k j xs → Sorted xs → Past (suc k) ys → Sorted ys → Sorted (xs ++ ys)
sorted_both k j [] ys n s p r = r
sorted_both k j (x ∷ xs) ys n s p r = (before_both x xs ys s.0 (before_past x k ys n.0 p), sorted_both k j xs ys n.1.1 s.1 p r)

past_both : (k j : ℕ) (xs ys : List Member) → Numbered k j xs → Past (suc k) ys → Past k (xs ++ ys)
past_both k j [] [] n p = tt
past_both k j [] (y ∷ ys) n p = let i = p.0 in (omega arith, past_both k j [] ys tt p.1)
past_both k j (x ∷ xs) ys n p = let i = n.0 in (omega arith, past_both k j xs ys n.1.1 p)

counted_sorted : (k : ℕ) (u : Option (List Entry)) (ts : Telegrams) → Past k (listed (counting k u ts)) × Sorted (listed (counting k u ts))
unfolding counting
counted_sorted k u [] = (tt, tt)
counted_sorted k u (t ∷ ts) = by_test (linked u t) (counted_sorted (suc k) (some t) ts)
  where
    here : Balise
    here = record { pig = k; telegram = t }

    by_test : (c : Bool) → Past (suc k) (listed (counting (suc k) (some t) ts)) × Sorted (listed (counting (suc k) (some t) ts))
        → Past k (listed (cond c (counting (suc k) (some t) ts) (here ∷ counting (suc k) (some t) ts)))
        × Sorted (listed (cond c (counting (suc k) (some t) ts) (here ∷ counting (suc k) (some t) ts)))
    by_test true i = (past_both k 0 [] (listed (counting (suc k) (some t) ts)) tt i.0, i.1)
    by_test false i =
        let f = from_numbered k 0 (bit_count (divided t).header) (divided t).packets in (
          past_both k 0 (packets_of here) (listed (counting (suc k) (some t) ts)) f.0 i.0,
          sorted_both k 0 (packets_of here) (listed (counting (suc k) (some t) ts)) f.0 f.1 i.0 i.1,
        )

-- "in that order", of any telegrams by their N_PIG
pub listed_sorted : (k : ℕ) (u : Option (List Entry)) (ts : Telegrams) → Sorted (listed (counting k u ts))
listed_sorted k u ts = (counted_sorted k u ts).1
