-- Every packet of the tables goes on from its identifier with Q_DIR and L_PACKET, and then with fields that move neither where it began
-- nor how long it says it is; or with one CTCS packet. Assumes nothing.
use mathlib.Core.Bool.{Bool, true, false, ◌&&◌, ◌||◌}
use mathlib.Core.List.{List, [], ◌∷◌, map}
use mathlib.Core.Option.{some}
use mathlib.Core.Path.{◌≡◌, refl, subst}
use Prim.Native.Nat.{ℕ}
use lib.Dec.{T}
use Rattle.format.specs.Fields.{Field, Rule, NID_XUSER, Q_DIR, L_PACKET}
use Rattle.format.specs.Fields.Rule.{any, packet, user, direction, size, pig, total, radio, within}
use Rattle.format.specs.Packets.{Items, Packet, header, etcs, ctcs, find}
use Rattle.format.specs.Packets.Items.{end, nest, send, send_if, send_either, send_times}
use Rattle.format.specs.Rules.{due, named, next, rule_of}
use Rattle.format.proofs.Rows.{and_left, and_right}
use Rattle.laws.proofs.Steps.{going, going_on}
use Rattle.laws.proofs.Every.{Every, Throughout, passes, passed, found, every_named, every_next}

-- ---- fields by their rules

-- the rules of the header
abbrev pub of_header : Rule → Bool
of_header any = true
of_header packet = false
of_header user = false
of_header direction = false
of_header size = false
of_header pig = true
of_header total = true
of_header radio = false
of_header (within a b) = true

-- the rules of what stands behind an L_PACKET
abbrev pub of_body : Rule → Bool
of_body any = true
of_body packet = false
of_body user = false
of_body direction = false
of_body size = false
of_body pig = false
of_body total = false
of_body radio = true
of_body (within a b) = true

abbrev header_field : Field → Bool
header_field f = of_header (rule_of f.sense)

abbrev body_field : Field → Bool
body_field f = of_body (rule_of f.sense)

abbrev pub InHeader : Field → Type 0
InHeader f = T (header_field f)

abbrev pub InBody : Field → Type 0
InBody f = T (body_field f)

-- ---- items that are neither done nor a CTCS packet send a field, and more of the same

pub named_due : (t : Items) (v : ℕ) → T (going t) → named t v ≡ due t
named_due end v g = absurd g
named_due nest v g = refl
named_due (send f r) v g = refl
named_due (send_if c f r) v g = refl
named_due (send_either c a b) v g = refl
named_due (send_times c g r) v h = refl

module _ (P : Field → Type 0) where
  pub every_sent : (t : Items) (v : ℕ) → T (going t) → Every P t → P (named t v)
  every_sent t v g k = every_named P t v k (going_on t g)

  pub every_due : (t : Items) → T (going t) → Every P t → P (due t)
  every_due t g k = rw (named_due t 0 g) at (every_sent t 0 g k)

  pub every_on : (P NID_XUSER → ⊥) → (t : Items) (v : ℕ) (u : Items) → T (going t) → Every P t → next t v ≡ some u → Every P u
  every_on never t v u g k e =
      rw e at
      (every_next P t v k (going_on t g) (λ i. absurd (never (subst (Every P) i k))))

-- ---- the tables

-- what stands behind the first field
abbrev behind : Items → Items
behind end = end
behind nest = end
behind (send f r) = r
behind (send_if c f r) = end
behind (send_either c a b) = end
behind (send_times c g r) = end

abbrev body : Items → Items
body t = behind (behind t)

abbrev pub with_head : Items → Items
with_head r = send Q_DIR (send L_PACKET r)

-- Q_DIR and L_PACKET, and then something of which a test holds
pub record Headed (q : Items → Bool) (t : Items) : Type 0 where
  pub rest : Items
  pub is : t ≡ with_head rest
  pub tested : T (q rest)

abbrev bodies : (Items → Bool) → List Packet → Bool
bodies q [] = true
bodies q (p ∷ ps) = q (body p.items) && bodies q ps

-- of a whole table, from an equation and a test that the checker computes
table_headed : (q : Items → Bool) (ps : List Packet) → map (λ p. p.items) ps ≡ map (λ p. with_head (body p.items)) ps → T (bodies q ps)
    → Throughout (Headed q) ps
table_headed q [] e h = tt
table_headed q (p ∷ ps) e h =
    let b = q (body p.items) in
    (record { rest = body p.items; is = cc; tested = and_left b (bodies q ps) h }, table_headed q ps (cc) (and_right b (bodies q ps) h))

-- one CTCS packet
abbrev nested : Items → Bool
nested end = false
nested nest = true
nested (send f r) = false
nested (send_if c f r) = false
nested (send_either c a b) = false
nested (send_times c g r) = false

-- what stands behind the L_PACKET of a packet; of a CTCS packet, where something always does
abbrev pub outer_body : Items → Bool
outer_body t = nested t || passes body_field t

abbrev pub inner_body : Items → Bool
inner_body t = going t && passes body_field t

etcs_headed : Throughout (Headed outer_body) etcs
unfolding etcs
etcs_headed = table_headed outer_body etcs refl tt

ctcs_headed : Throughout (Headed inner_body) ctcs
unfolding ctcs
ctcs_headed = table_headed inner_body ctcs refl tt

pub packet_headed : (v : ℕ) (t : Items) → find v etcs ≡ some t → Headed outer_body t
packet_headed v t e = rw e at (found (Headed outer_body) v etcs etcs_headed)

pub user_headed : (v : ℕ) (t : Items) → find v ctcs ≡ some t → Headed inner_body t
user_headed v t e = rw e at (found (Headed inner_body) v ctcs ctcs_headed)

pub header_fields : Every InHeader header
unfolding header
header_fields = passed header_field header tt

-- ---- what is left of a packet behind its L_PACKET

pub data Carried : Items → Type 0 where
  carrying : Carried nest
  filled : {t : Items} → Every InBody t → Carried t

pub outer_body_lem : (t : Items) → T (outer_body t) → Carried t
outer_body_lem end h = filled tt
outer_body_lem nest h = carrying
outer_body_lem (send f r) h = filled (passed body_field (send f r) h)
outer_body_lem (send_if c f r) h = filled (passed body_field (send_if c f r) h)
outer_body_lem (send_either c a b) h = filled (passed body_field (send_either c a b) h)
outer_body_lem (send_times c g r) h = filled (passed body_field (send_times c g r) h)

pub inner_body_lem : (t : Items) → T (inner_body t) → T (going t) × Every InBody t
inner_body_lem t h =
    let q = passes body_field t in
    (and_left (going t) q h, passed body_field t (and_right (going t) q h))
