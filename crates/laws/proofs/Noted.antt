-- What a value leaves in the context, by the level and the rule of its field, and where a context finds an L_PACKET that is wrong. Assumes
-- nothing.
use mathlib.Core.Bool.{Bool, true, false, cond}
use mathlib.Core.List.{◌∷◌}
use mathlib.Core.Path.{◌≡◌, refl}
use Prim.Native.Nat.{ℕ, ◌+◌, ◌-◌}
use lib.Dec.{T, eqb}
use Rattle.format.specs.Fields.{Rule, NID_PACKET, NID_XUSER, Q_DIR}
use Rattle.format.specs.Fields.Rule.{any, packet, user, direction, size, pig, total, radio, within}
use Rattle.format.specs.Rules.{Context, Level, context, noted, spot_of, spot_at, place_from}
use Rattle.format.specs.Rules.Level.{in_header, in_packet, in_user}
use Rattle.format.specs.declared.Kind.TheVariants.{Length}
use Rattle.laws.proofs.Headed.{of_header, of_body}

-- ---- what a value leaves

module _ (c : Context) (at v : ℕ) where
  pub direction_in_packet : c.level ≡ in_packet
      → noted direction c at v
      ≡ context in_packet c.start c.id v c.long c.user_start c.user_long c.pig (record { id = c.id; dir = v } ∷ c.earlier)
  unfolding noted
  direction_in_packet l = rw l

  pub size_in_packet : c.level ≡ in_packet
      → noted size c at v ≡ context in_packet c.start c.id c.dir v c.user_start c.user_long c.pig c.earlier
  unfolding noted
  size_in_packet l = rw l

  pub direction_in_user : c.level ≡ in_user → noted direction c at v ≡ c
  unfolding noted
  direction_in_user l = rw l

  pub size_in_user : c.level ≡ in_user
      → noted size c at v ≡ context in_user c.start c.id c.dir c.long c.user_start v c.pig c.earlier
  unfolding noted
  size_in_user l = rw l

  pub user_noted : noted user c at v ≡ context in_user c.start c.id c.dir c.long at 0 c.pig c.earlier
  unfolding noted
  user_noted = refl

  pub packet_noted : noted packet c at v ≡ context in_packet c.start v 0 0 0 0 c.pig c.earlier
  unfolding noted
  packet_noted = refl

  pub body_noted : (r : Rule) → T (of_body r) → noted r c at v ≡ c
  unfolding noted
  body_noted any h = refl
  body_noted packet h = absurd h
  body_noted user h = absurd h
  body_noted direction h = absurd h
  body_noted size h = absurd h
  body_noted pig h = absurd h
  body_noted total h = absurd h
  body_noted radio h = refl
  body_noted (within a b) h = refl

  pub header_noted : (r : Rule) → T (of_header r) → (noted r c at v).level ≡ c.level
  unfolding noted
  header_noted any h = refl
  header_noted packet h = absurd h
  header_noted user h = absurd h
  header_noted direction h = absurd h
  header_noted size h = absurd h
  header_noted pig h = refl
  header_noted total h = refl
  header_noted radio h = absurd h
  header_noted (within a b) h = refl

-- ---- what is left of the packets before

-- nothing is added to them, at any field but the Q_DIR of a packet
module _ (c : Context) (at v : ℕ) where
  kept_size : (l : Level) → c.level ≡ l → (noted size c at v).earlier ≡ c.earlier
  unfolding noted
  kept_size in_header e = rw e
  kept_size in_packet e = rw e
  kept_size in_user e = rw e

  kept_direction : (l : Level) → c.level ≡ l → (l ≡ in_packet → ⊥) → (noted direction c at v).earlier ≡ c.earlier
  unfolding noted
  kept_direction in_header e n = rw e
  kept_direction in_packet e n = absurd (n refl)
  kept_direction in_user e n = rw e

  pub kept : (r : Rule) → (r ≡ direction → c.level ≡ in_packet → ⊥) → (noted r c at v).earlier ≡ c.earlier
  unfolding noted
  kept any n = refl
  kept packet n = refl
  kept user n = refl
  kept direction n = kept_direction c.level refl (n refl)
  kept size n = kept_size c.level refl
  kept pig n = refl
  kept total n = refl
  kept radio n = refl
  kept (within a b) n = refl

-- ---- where a misfit is

module _ (at past : ℕ) (c : Context) where
  pub header_place : c.level ≡ in_header → place_from Length at past c ≡ at
  unfolding place_from spot_of spot_at
  header_place l = rw l

  pub packet_place : c.level ≡ in_packet → place_from Length at past c ≡ c.start + (NID_PACKET.width + Q_DIR.width)
  unfolding place_from spot_of spot_at
  packet_place l = rw l

  pub user_place : (b : Bool) → c.level ≡ in_user → eqb (past - c.user_start) c.user_long ≡ b
      → place_from Length at past c ≡ cond b (c.start + (NID_PACKET.width + Q_DIR.width)) (c.user_start + (NID_XUSER.width + Q_DIR.width))
  unfolding place_from spot_of spot_at
  user_place true l e = rw (l, e)
  user_place false l e = rw (l, e)
