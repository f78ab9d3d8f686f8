-- What a step says of rule 10, for any terms; and that terms by which more collides only add such refusals. Assumes nothing.
use mathlib.Core.Bool.{Bool, true, false, cond, not, ◌&&◌}
use mathlib.Core.Logic.{◌↔◌, ◌⊎◌, inl, inr}
use mathlib.Core.Option.{Option, some, none}
use mathlib.Core.Path.{◌≡◌, refl}
use Prim.Native.Nat.{ℕ, ◌≤◌}
use native.Mathlib.Omega.{arith}
use borrow.Author.Tests.{eqb-true, eqb-false, leb-true, leb-false}
use lib.Dec.{eqb, leb}
use Rattle.format.specs.Fields.{Rule}
use Rattle.format.specs.Fields.Rule.{any, packet, user, direction, size, pig, total, radio, within}
use Rattle.format.specs.Packets.{Items}
use Rattle.format.specs.Rules.{State, Context, Terms, Level, Next, step, field, rule_of, broken, misdirected, unless, among, collides_by}
use Rattle.format.specs.Rules.Level.{in_header, in_packet, in_user}
use Rattle.format.specs.Rules.Next.{go, breaks}
use Rattle.format.specs.declared.Kind.{Kind}
use Rattle.format.specs.declared.Kind.TheVariants.{Value, Repeated}
use Rattle.laws.proofs.Order.{order_value, order_repeated}
use Rattle.laws.proofs.Steps.{Stepped, stepped}
use Rattle.laws.proofs.Steps.Settled.{on, closed, misfitted}
use Rattle.laws.proofs.Steps.Stepped.{forbidden, marked, noticed}

-- ---- when a packet collides

module _ (collide : ℕ → ℕ → Bool) (c : Context) (v : ℕ) where
  -- the two tests, taken apart
  by_44 : (b : Bool) → eqb c.id 44 ≡ b
      → ((not b && among collide c.id v c.earlier) ≡ true) ↔ ((c.id ≡ 44 → ⊥) × (among collide c.id v c.earlier ≡ true))
  by_44 true e = (λ h. let z : ◌≡◌ {A = ℕ} 0 1 = cc in absurd (omega arith), λ h. absurd (h.0 (eqb-true c.id 44 e)))
  by_44 false e = (λ h. (eqb-false c.id 44 e, h), λ h. h.1)

  -- it is not ETCS-44, and one of the packets before is met
  pub collides_is : (collides_by collide c v ≡ true) ↔ ((c.id ≡ 44 → ⊥) × (among collide c.id v c.earlier ≡ true))
  unfolding collides_by
  collides_is = by_44 (eqb c.id 44) refl

-- ---- the rule of a Q_DIR

module _ (p : Terms) (c : Context) (v : ℕ) (allowed : broken p c direction v ≡ none) where
  -- a Q_DIR that is allowed is one of three
  pub allowed_small : v ≤ 2
  allowed_small = by_test (leb v 2) refl
    where
      by_test : (b : Bool) → leb v 2 ≡ b → v ≤ 2
      by_test true i = leb-true v 2 i
      by_test false i = let e = (order_value p c v).1 (leb-false v 2 i) in let z : ◌≡◌ {A = ℕ} 0 1 = cc in absurd (omega arith)

  -- and in a packet it collides with none
  pub allowed_apart : c.level ≡ in_packet → p.collides c v ≡ false
  allowed_apart l = by_test (p.collides c v) refl
    where
      by_test : (b : Bool) → p.collides c v ≡ b → b ≡ false
      by_test true i = let e = (order_repeated p c v).1 (allowed_small, l, i) in let z : ◌≡◌ {A = ℕ} 0 1 = cc in absurd (omega arith)
      by_test false i = refl

-- ---- a step

module _ (p : Terms) (s : State) (v : ℕ) where
  -- a value that leads on breaks no rule
  pub go_unbroken : (t : Items) (c : Context) → step p s v ≡ go t c → broken p s.context (rule_of (field s).sense) v ≡ none
  go_unbroken t c h = by_way (stepped p s v) h
    where
      by_way : {n : Next} → Stepped p s v n → n ≡ go t c → broken p s.context (rule_of (field s).sense) v ≡ none
      by_way (forbidden b) i = cc
      by_way (marked b e) i = cc
      by_way (noticed b e w) i = b

  -- a value that is refused as 10 breaks that rule
  pub breaks_repeated : step p s v ≡ breaks Repeated → broken p s.context (rule_of (field s).sense) v ≡ some Repeated
  breaks_repeated h = by_way (stepped p s v) h
    where
      by_way : {n : Next} → Stepped p s v n → n ≡ breaks Repeated → broken p s.context (rule_of (field s).sense) v ≡ some Repeated
      by_way (forbidden b) i = cc
      by_way (marked b e) i = cc
      by_way (noticed b e (on g)) i = cc
      by_way (noticed b e (closed g)) i = cc
      by_way (noticed b e (misfitted g f)) i = cc

-- ---- two terms, by the second of which more collides

-- what collides by the first collides by the second
abbrev pub Weaker : Terms → Terms → Type 0
Weaker p q = (c : Context) (v : ℕ) → p.collides c v ≡ true → q.collides c v ≡ true

module _ (p q : Terms) (c : Context) (v : ℕ) (implies : p.collides c v ≡ true → q.collides c v ≡ true) where
  -- one more collides, and the rest is as it was
  unless_kept : (a b : Bool) → p.collides c v ≡ a → q.collides c v ≡ b
      → (unless (not b) Repeated ≡ unless (not a) Repeated) ⊎ (unless (not b) Repeated ≡ some Repeated)
  unless_kept a true i j = inr refl
  unless_kept true false i j = inl (cc (implies i))
  unless_kept false false i j = inl refl

  -- so a direction is refused by the one as by the other, or as 10
  misdirected_kept : (l : Level) → (misdirected q c l v ≡ misdirected p c l v) ⊎ (misdirected q c l v ≡ some Repeated)
  unfolding misdirected
  misdirected_kept in_header = inl refl
  misdirected_kept in_packet = unless_kept (p.collides c v) (q.collides c v) refl refl
  misdirected_kept in_user = inl refl

  -- the test before it, that it is a direction at all, changes nothing
  cond_kept : (b : Bool) (x y : Option Kind) → (y ≡ x) ⊎ (y ≡ some Repeated)
      → (cond b y (some Value) ≡ cond b x (some Value)) ⊎ (cond b y (some Value) ≡ some Repeated)
  cond_kept true x y h = h
  cond_kept false x y h = inl refl

  -- a rule is broken by the one as by the other, or as 10 by the second
  broken_kept : (r : Rule) → (broken q c r v ≡ broken p c r v) ⊎ (broken q c r v ≡ some Repeated)
  unfolding broken
  broken_kept any = inl refl
  broken_kept packet = inl refl
  broken_kept user = inl refl
  broken_kept direction = cond_kept (leb v 2) (misdirected p c c.level v) (misdirected q c c.level v) (misdirected_kept c.level)
  broken_kept size = inl refl
  broken_kept pig = inl refl
  broken_kept total = inl refl
  broken_kept radio = inl refl
  broken_kept (within a b) = inl refl

-- and so for a step
pub step_kept : (p q : Terms) → Weaker p q → (s : State) (v : ℕ)
    → (step q s v ≡ step p s v) ⊎ (step q s v ≡ breaks Repeated)
unfolding step
step_kept p q implies s v = by_broken (broken_kept p q s.context v (implies s.context v) (rule_of (field s).sense))
  where
    by_broken : (broken q s.context (rule_of (field s).sense) v ≡ broken p s.context (rule_of (field s).sense) v)
        ⊎ (broken q s.context (rule_of (field s).sense) v ≡ some Repeated)
        → (step q s v ≡ step p s v) ⊎ (step q s v ≡ breaks Repeated)
    by_broken (inl e) = inl (rw e)
    by_broken (inr e) = inr (rw e)
