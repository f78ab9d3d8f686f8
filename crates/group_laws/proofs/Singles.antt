-- "the first refusal of a single telegram in arrival order, with its arrival number from 0": a group is refused for a single telegram just where the
-- check refuses that telegram and accepts all before it, and with the check's refusal to the letter. Assumes nothing.
use mathlib.Core.Bool.{Bool, true, false, cond}
use mathlib.Core.List.{List, [], ◌∷◌, ◌++◌}
use mathlib.Core.Option.{Option, some, none}
use mathlib.Core.Path.{◌≡◌, refl, sym, ap, ◌∙◌, subst}
use Prim.Native.Nat.{ℕ, suc, ◌+◌, ◌≤◌}
use native.Mathlib.Omega.{arith}
use borrow.Author.Tests.{leb-true, le-leb}
use lib.Dec.{leb}
use lib.ListN.{length}
use Rattle.format.specs.Rules.{Terms}
use Rattle.format.specs.Telegrams.{Entry, Result}
use Rattle.format.specs.Telegrams.Result.{accepted, refused}
use Rattle.format.specs.declared.Kind.{Kind}
use Rattle.format.specs.declared.Refusal.{Refusal}
use Rattle.states.specs.Reader.{checked}
use Rattle.group.specs.declared.Cause.TheVariants.{Room, Single, Identity, Counters}
use Rattle.group.specs.declared.Fault.{Fault}
use Rattle.group.specs.Groups.{Part, Arrived, arrival, arrived, parts, grouped, in_order, counted, miscopied, counting, listed, Member, collision, uncollided, uncopied, lined, message, judged, fault, Message, group}
use Rattle.group.specs.Groups.Arrived.{all, stops}
use Rattle.group.specs.Groups.Message.{lists, refuses}

-- ---- the first that is refused

-- each of these is accepted
abbrev pub AllAccepted : Terms → List Part → Type 0
AllAccepted p [] = Unit
AllAccepted p (x ∷ xs) = ((es : List Entry) × (checked p x.bytes x.size ≡ accepted es)) × AllAccepted p xs

-- a telegram that is refused, behind so many that are accepted
pub record FirstRefused (p : Terms) (xs : List Part) (i : ℕ) (r : Refusal) : Type 0 where
  pub earlier : List Part
  pub part : Part
  pub later : List Part
  pub stands : xs ≡ earlier ++ part ∷ later
  pub number : i ≡ length earlier
  pub fine : AllAccepted p earlier
  pub refuses : checked p part.bytes part.size ≡ refused r

module _ (p : Terms) where
  stopped : (k : ℕ) (xs earlier : List Part) (x : Part) (later : List Part) (r : Refusal) → xs ≡ earlier ++ x ∷ later → AllAccepted p earlier
      → checked p x.bytes x.size ≡ refused r → arrived p k xs ≡ stops (k + length earlier) r
  unfolding arrived
  stopped k [] [] x later r e a h = let z : ◌≡◌ {A = ℕ} 0 1 = cc in absurd (omega arith)
  stopped k [] (y ∷ earlier) x later r e a h = let z : ◌≡◌ {A = ℕ} 0 1 = cc in absurd (omega arith)
  stopped k (w ∷ xs) [] x later r e a h =
      let i : w ≡ x = cc in
      let n : k + 0 ≡ k = omega arith in
      rw (i, h, n)
  stopped k (w ∷ xs) (y ∷ earlier) x later r e a h =
      let i : w ≡ y = cc in
      let j : xs ≡ earlier ++ x ∷ later = cc in
      let n : suc k + length earlier ≡ k + suc (length earlier) = omega arith in
      rw (i, a.0.1, stopped (suc k) xs earlier x later r j a.1 h, n)

  found : (k : ℕ) (xs : List Part) (j : ℕ) (r : Refusal) → arrived p k xs ≡ stops j r → (i : ℕ) × ((j ≡ k + i) × FirstRefused p xs i r)
  unfolding arrived
  found k [] j r h = let z : ◌≡◌ {A = ℕ} 0 1 = cc in absurd (omega arith)
  found k (x ∷ xs) j r h = by_result (checked p x.bytes x.size) (arrived p (suc k) xs) refl refl h (λ g. found (suc k) xs j r g)
    where
      by_result : (c : Result) (a : Arrived) → checked p x.bytes x.size ≡ c → arrived p (suc k) xs ≡ a → arrival c k a ≡ stops j r
          → (arrived p (suc k) xs ≡ stops j r → (i : ℕ) × ((j ≡ suc k + i) × FirstRefused p xs i r)) → (i : ℕ) × ((j ≡ k + i) × FirstRefused p (x ∷ xs) i r)
      by_result (accepted es) (all ts) e f g on = let z : ◌≡◌ {A = ℕ} 0 1 = cc in absurd (omega arith)
      by_result (accepted es) (stops m q) e f g on =
          let o = on (f ∙ g) in
          let d = o.1.1 in
          let n = o.1.0 in (
            suc o.0,
            (
              omega arith,
              record {
                earlier = x ∷ d.earlier;
                part = d.part;
                later = d.later;
                stands = ap (λ (l : List Part). x ∷ l) d.stands;
                number = ap suc d.number;
                fine = ((es, e), d.fine);
                refuses = d.refuses;
              },
            ),
          )
      by_result (refused q) a e f g on =
          let n : k ≡ j = cc in
          let m : q ≡ r = cc in
          (0, (omega arith, record { earlier = []; part = x; later = xs; stands = refl; number = refl; fine = tt; refuses = e ∙ ap refused m }))

-- ---- no other refusal is one of a single telegram

abbrev Whole : Message → Type 0
Whole (lists ms) = Unit
Whole (refuses f) = (k : Kind) → f.cause ≡ Single k → ⊥

message_whole : (ts : List (List Entry)) → Whole (message ts)
unfolding message lined
message_whole ts = by_group (grouped ts)
  where
    by_last : (ms : List Member) (o : Option Member) → Whole (uncollided ms o)
    by_last ms none = tt
    by_last ms (some m) = λ k e. let z : ◌≡◌ {A = ℕ} 0 1 = cc in omega arith

    by_copies : (l : List (List Entry)) (o : Option ℕ) → Whole (uncopied l o)
    by_copies l none = by_last (listed (counting 0 none l)) (collision [] (listed (counting 0 none l)))
    by_copies l (some j) = λ k e. let z : ◌≡◌ {A = ℕ} 0 1 = cc in omega arith

    by_counters : (l : List (List Entry)) (b : Bool) → Whole (cond b (uncopied l (miscopied 0 none l)) (refuses (fault Counters 0 0)))
    by_counters l true = by_copies l (miscopied 0 none l)
    by_counters l false = λ k e. let z : ◌≡◌ {A = ℕ} 0 1 = cc in omega arith

    by_group : (b : Bool) → Whole (cond b (lined (in_order 0 (length ts) ts)) (refuses (fault Identity 0 0)))
    by_group true = by_counters (in_order 0 (length ts) ts) (counted (in_order 0 (length ts) ts))
    by_group false = λ k e. let z : ◌≡◌ {A = ℕ} 0 1 = cc in omega arith

-- ---- just then, and to the letter

module _ (p : Terms) (s ns : List ℕ) (room : ℕ) where
  pub single_refused : 264 ≤ room → (i : ℕ) (r : Refusal) → FirstRefused p (parts s ns) i r → group p s ns room ≡ refuses (fault (Single r.kind) i r.place)
  unfolding group
  single_refused h i r d =
      let a = stopped p 0 (parts s ns) d.earlier d.part d.later r d.stands d.fine d.refuses in
      let n : 0 + length d.earlier ≡ i = let m = d.number in omega arith in
      rw (le-leb 264 room h, a, n)

  pub refused_single : (f : Fault) (k : Kind) → group p s ns room ≡ refuses f → f.cause ≡ Single k
      → (264 ≤ room) × ((r : Refusal) × ((f ≡ fault (Single r.kind) f.which r.place) × FirstRefused p (parts s ns) f.which r))
  unfolding group
  refused_single f k h e = by_room (leb 264 room) refl h
    where
      Refuses : Type 0
      Refuses = (264 ≤ room) × ((r : Refusal) × ((f ≡ fault (Single r.kind) f.which r.place) × FirstRefused p (parts s ns) f.which r))

      by_arrival : 264 ≤ room → (a : Arrived) → arrived p 0 (parts s ns) ≡ a → judged a ≡ refuses f → Refuses
      by_arrival l (all ts) i g = absurd (subst Whole g (message_whole ts) k e)
      by_arrival l (stops j r) i g =
          let q : fault (Single r.kind) j r.place ≡ f = cc in
          let w : j ≡ f.which = ap (λ (x : Fault). x.which) q in
          let d = found p 0 (parts s ns) j r i in
          let n : d.0 ≡ f.which = let m = d.1.0 in omega arith in
          (l, (r, (sym q ∙ ap (λ (x : ℕ). fault (Single r.kind) x r.place) w, subst (λ (x : ℕ). FirstRefused p (parts s ns) x r) n d.1.1)))

      by_room : (b : Bool) → leb 264 room ≡ b → cond b (judged (arrived p 0 (parts s ns))) (refuses (fault Room 0 0)) ≡ refuses f → Refuses
      by_room true i g = by_arrival (leb-true 264 room i) (arrived p 0 (parts s ns)) refl g
      by_room false i g =
          let q : fault Room 0 0 ≡ f = cc in
          let c : Room ≡ Single k = ap (λ (x : Fault). x.cause) q ∙ e in
          let z : ◌≡◌ {A = ℕ} 0 1 = cc in
          absurd (omega arith)
