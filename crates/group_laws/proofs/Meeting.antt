-- The last test of a group in words: it finds the first packet of one kind but ETCS-44 with one before it that a train gets beside it, and none just where no two are so. Assumes nothing.
use mathlib.Core.Bool.{Bool, true, false, cond, not, ◌&&◌, ◌||◌}
use mathlib.Core.List.{List, [], ◌∷◌, ◌++◌, append_assoc}
use mathlib.Core.Logic.{◌⊎◌, inl, inr}
use mathlib.Core.Option.{some, none}
use mathlib.Core.Path.{◌≡◌, refl, sym, ap, ◌∙◌, subst}
use Prim.Native.Nat.{ℕ, ◌≤◌}
use native.Mathlib.Omega.{arith}
use borrow.Author.Tests.{eqb-false, ne_eqb}
use lib.Dec.{eqb}
use Rattle.format.specs.Rules.{Earlier, clash, among, collides_among}
use Rattle.laws.proofs.Pairs.{serves}
use Rattle.laws.proofs.EachWay.{clash_shared}
use Rattle.group.specs.Groups.{Member, collision}
use Rattle.group_laws.proofs.Listing.{In}
use Rattle.group_laws.proofs.Counted.{in_first, in_later, in_left, no_in}
use Rattle.group_laws.proofs.Ways.{among_here, goes_on_lem, apart}
use Rattle.laws.proofs.EachWay.{served_clash}
use Rattle.group_laws.proofs.Alone.{earlier_of, Collide, met, no_collision}

-- ---- in words

-- two packets of one kind but ETCS-44, and a train that runs one of the two ways gets both
pub record Meet (m o : Member) : Type 0 where
  pub kind : m.id ≡ o.id
  pub not_44 : m.id ≡ 44 → ⊥
  pub way : ℕ
  pub runs : way ≤ 1
  pub gets : serves m.dir way ≡ true
  pub gets_too : serves o.dir way ≡ true

-- no two of these meet
abbrev pub NoneMeet : List Member → Type 0
NoneMeet ms = (x : List Member) (o : Member) (y : List Member) (m : Member) (z : List Member) → ms ≡ x ++ o ∷ (y ++ m ∷ z) → Meet m o → ⊥

-- the first that meets one before it
pub record FirstMeets (ms : List Member) (m : Member) : Type 0 where
  pub earlier : List Member
  pub later : List Member
  pub is : ms ≡ earlier ++ m ∷ later
  pub other : Member
  pub stands : In other earlier
  pub meets : Meet m other
  pub apart : NoneMeet earlier

-- ---- two directions that collide, of packets as they are accepted

abbrev pub Small : List Member → Type 0
Small ms = (m : Member) → In m ms → m.dir ≤ 2

shares : (d e : ℕ) → d ≤ 2 → e ≤ 2 → clash d e ≡ true → (way : ℕ) × ((way ≤ 1) × ((serves d way ≡ true) × (serves e way ≡ true)))
shares d e h k c = by_tests (serves d 0) (serves e 0) (serves d 1) (serves e 1) refl refl refl refl (sym (clash_shared d e h k) ∙ c)
  where
    by_tests : (a b x y : Bool) → serves d 0 ≡ a → serves e 0 ≡ b → serves d 1 ≡ x → serves e 1 ≡ y → (a && b || x && y) ≡ true
        → (way : ℕ) × ((way ≤ 1) × ((serves d way ≡ true) × (serves e way ≡ true)))
    by_tests true true x y i j k l g = (0, (omega arith, (i, j)))
    by_tests true false true true i j k l g = (1, (omega arith, (k, l)))
    by_tests true false true false i j k l g = let z : ◌≡◌ {A = ℕ} 0 1 = cc in absurd (omega arith)
    by_tests true false false y i j k l g = let z : ◌≡◌ {A = ℕ} 0 1 = cc in absurd (omega arith)
    by_tests false b true true i j k l g = (1, (omega arith, (k, l)))
    by_tests false b true false i j k l g = let z : ◌≡◌ {A = ℕ} 0 1 = cc in absurd (omega arith)
    by_tests false b false y i j k l g = let z : ◌≡◌ {A = ℕ} 0 1 = cc in absurd (omega arith)

meet_of : (m o : Member) → m.dir ≤ 2 → o.dir ≤ 2 → Collide m (earlier_of o) → Meet m o
meet_of m o h k c =
    let s = shares m.dir o.dir h k c.1.1 in
    record { kind = c.0; not_44 = c.1.0; way = s.0; runs = s.1.0; gets = s.1.1.0; gets_too = s.1.1.1 }

collide_of : (m o : Member) → Meet m o → Collide m (earlier_of o)
collide_of m o c = (c.kind, (c.not_44, served_clash c.way m.dir o.dir c.gets c.gets_too))

-- ---- the test

-- those seen, and these behind them, the latest first
abbrev seen_after : List Earlier → List Member → List Earlier
seen_after seen [] = seen
seen_after seen (x ∷ xs) = seen_after (earlier_of x ∷ seen) xs

seen_of : (seen : List Earlier) (xs : List Member) (e : Earlier) → In e (seen_after seen xs) → In e seen ⊎ ((o : Member) × (In o xs × (e ≡ earlier_of o)))
seen_of seen [] e i = inl i
seen_of seen (x ∷ xs) e i = by_side (seen_of (earlier_of x ∷ seen) xs e i)
  where
    Found : Type 0
    Found = In e seen ⊎ ((o : Member) × (In o (x ∷ xs) × (e ≡ earlier_of o)))

    by_place : (a b : List Earlier) → earlier_of x ∷ seen ≡ a ++ e ∷ b → Found
    by_place [] b q = let k : earlier_of x ≡ e = cc in inr (x, (in_first x xs, sym k))
    by_place (v ∷ a) b q = inl (record { before = a; after = b; is = cc })

    by_side : In e (earlier_of x ∷ seen) ⊎ ((o : Member) × (In o xs × (e ≡ earlier_of o))) → Found
    by_side (inl j) = by_place j.before j.after j.is
    by_side (inr r) = inr (r.0, (in_later x r.1.0, r.1.1))

stays_seen : (seen : List Earlier) (xs : List Member) (e : Earlier) → In e seen → In e (seen_after seen xs)
stays_seen seen [] e i = i
stays_seen seen (x ∷ xs) e i = stays_seen (earlier_of x ∷ seen) xs e (in_later (earlier_of x) i)

seen_at : (seen : List Earlier) (xs a : List Member) (o : Member) (b : List Member) → xs ≡ a ++ o ∷ b → In (earlier_of o) (seen_after seen xs)
seen_at seen [] [] o b e = let z : ◌≡◌ {A = ℕ} 0 1 = cc in absurd (omega arith)
seen_at seen [] (x ∷ a) o b e = let z : ◌≡◌ {A = ℕ} 0 1 = cc in absurd (omega arith)
seen_at seen (w ∷ xs) [] o b e =
    let i : w ≡ o = cc in
    stays_seen (earlier_of w ∷ seen) xs (earlier_of o) (subst (λ (v : Member). In (earlier_of v) (earlier_of w ∷ seen)) i (in_first (earlier_of w) seen))
seen_at seen (w ∷ xs) (x ∷ a) o b e = seen_at (earlier_of w ∷ seen) xs a o b (cc)

-- where the test ends
record Ends (seen : List Earlier) (ms : List Member) (m : Member) : Type 0 where
  earlier : List Member
  later : List Member
  is : ms ≡ earlier ++ m ∷ later
  collides : collides_among clash m.id m.dir (seen_after seen earlier) ≡ true
  free : collision seen earlier ≡ none

ends : (seen : List Earlier) (ms : List Member) (m : Member) → collision seen ms ≡ some m → Ends seen ms m
unfolding collision
ends seen [] m h = let z : ◌≡◌ {A = ℕ} 0 1 = cc in absurd (omega arith)
ends seen (w ∷ ms) m h = by_test (collides_among clash w.id w.dir seen) refl h (λ g. ends (earlier_of w ∷ seen) ms m g)
  where
    by_test : (t : Bool) → collides_among clash w.id w.dir seen ≡ t → cond t (some w) (collision (earlier_of w ∷ seen) ms) ≡ some m
        → (collision (earlier_of w ∷ seen) ms ≡ some m → Ends (earlier_of w ∷ seen) ms m) → Ends seen (w ∷ ms) m
    by_test true e g on =
        let i : w ≡ m = cc in
        record { earlier = []; later = ms; is = ap (λ (v : Member). v ∷ ms) i; collides = subst (λ (v : Member). collides_among clash v.id v.dir seen ≡ true) i e; free = refl }
    by_test false e g on =
        let r = on g in
        record { earlier = w ∷ r.earlier; later = r.later; is = ap (λ (l : List Member). w ∷ l) r.is; collides = r.collides; free = rw e r.free }

ends_there : (seen : List Earlier) (xs : List Member) (m : Member) (ys : List Member) → collision seen xs ≡ none
    → collides_among clash m.id m.dir (seen_after seen xs) ≡ true → collision seen (xs ++ m ∷ ys) ≡ some m
unfolding collision
ends_there seen [] m ys h k = rw k
ends_there seen (x ∷ xs) m ys h k = by_test (collides_among clash x.id x.dir seen) h (ends_there (earlier_of x ∷ seen) xs m ys (goes_on_lem x xs seen h) k)
  where
    by_test : (t : Bool) → cond t (some x) (collision (earlier_of x ∷ seen) xs) ≡ none → collision (earlier_of x ∷ seen) (xs ++ m ∷ ys) ≡ some m
        → cond t (some x) (collision (earlier_of x ∷ seen) (xs ++ m ∷ ys)) ≡ some m
    by_test true g on = let z : ◌≡◌ {A = ℕ} 0 1 = cc in absurd (omega arith)
    by_test false g on = on

-- ---- what it says, of packets with the directions of accepted telegrams

pub no_meeting : (ms : List Member) → collision [] ms ≡ none → NoneMeet ms
no_meeting ms h x o y m z e c = let d = collide_of m o c in apart [] ms h x o y m z e d.0 d.1.0 d.1.1

module _ (ms : List Member) (small : Small ms) where
  pub no_test : NoneMeet ms → collision [] ms ≡ none
  no_test n =
      no_collision [] ms (λ m i e j c. no_in e j)
      (λ x o y m z e c. n x o y m z e (meet_of m o (small m (record { before = x ++ o ∷ y; after = z; is = e ∙ sym (append_assoc x (o ∷ y) (m ∷ z)) }))
      (small o (record { before = x; after = y ++ m ∷ z; is = e })) c))

  pub first_of_test : (m : Member) → collision [] ms ≡ some m → FirstMeets ms m
  first_of_test m h = by_44 (eqb m.id 44) refl r.collides
    where
      r : Ends [] ms m
      r = ends [] ms m h

      here : (o : Member) → In o r.earlier → m.id ≡ o.id → (m.id ≡ 44 → ⊥) → clash m.dir o.dir ≡ true → FirstMeets ms m
      here o i k n c =
          record {
            earlier = r.earlier;
            later = r.later;
            is = r.is;
            other = o;
            stands = i;
            meets = meet_of m o (small m (record { before = r.earlier; after = r.later; is = r.is })) (small o (subst (In o) (sym r.is) (in_left (m ∷ r.later) i))) (k, (n, c));
            apart = no_meeting r.earlier r.free;
          }

      by_side : (e : Earlier) → In e [] ⊎ ((o : Member) × (In o r.earlier × (e ≡ earlier_of o))) → m.id ≡ e.id → (m.id ≡ 44 → ⊥) → clash m.dir e.dir ≡ true → FirstMeets ms m
      by_side e (inl i) k n c = no_in e i
      by_side e (inr o) k n c =
          here o.0 o.1.0 (k ∙ ap (λ (x : Earlier). x.id) o.1.1) n (ap (λ (x : Earlier). clash m.dir x.dir) (sym o.1.1) ∙ c)

      by_44 : (t : Bool) → eqb m.id 44 ≡ t → (not t && among clash m.id m.dir (seen_after [] r.earlier)) ≡ true → FirstMeets ms m
      by_44 true e g = let z : ◌≡◌ {A = ℕ} 0 1 = cc in absurd (omega arith)
      by_44 false e g =
          let f = met m.id m.dir (seen_after [] r.earlier) g in
          by_side f.0 (seen_of [] r.earlier f.0 f.1.0) f.1.1.0 (eqb-false m.id 44 e) f.1.1.1

pub test_at_first : (ms : List Member) → Small ms → (m : Member) → FirstMeets ms m → collision [] ms ≡ some m
test_at_first ms small m f =
    let xs = f.earlier in
    let d = collide_of m f.other f.meets in
    let i = seen_at [] xs f.stands.before f.other f.stands.after f.stands.is in
    let g : among clash m.id m.dir (seen_after [] xs) ≡ true =
    ap (among clash m.id m.dir) i.is ∙ among_here m.id m.dir (earlier_of f.other) i.before i.after d.0 d.1.1 in
    let less : Small xs = λ o j. small o (subst (In o) (sym f.is) (in_left (m ∷ f.later) j)) in
    ap (collision []) f.is ∙ ends_there [] xs m f.later (no_test xs less f.apart) (rw (ne_eqb m.id 44 d.1.0, g))
