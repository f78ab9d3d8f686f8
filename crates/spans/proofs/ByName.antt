-- Packets by their NID_PACKET and their NID_XUSER, one law for each arm of the choice. Assumes nothing.
use mathlib.Core.Path.{◌≡◌}
use mathlib.Core.List.{List}
use Prim.Native.Nat.{ℕ, ◌+◌, ◌*◌}
use borrow.Author.Tests.{ne_eqb}
use Rattle.bits.specs.Ahead.{behind}
use Rattle.lists.specs.Lists.{links_at, levels_at, choices_at, circuits_at}
use Rattle.wide_lists.specs.WideLists.{speeds_at, positions_at}
use Rattle.bodies.specs.Bodies.{sized_by, radio_at, track_at, restricted_at, stopping_at, text_at}
use Rattle.spans.specs.Spans.{plain, scaled_by, user_at, national_at, kind_at}

-- ---- by NID_PACKET

module _ (s : List ℕ) (n e x long w id : ℕ) where
  pub kind_5 : id ≡ 5 → scaled_by (behind w 23 2) (links_at s n e x) ≡ kind_at s n e x long w id
  unfolding kind_at
  kind_5 h = rw h

  pub kind_21 : id ≡ 21 → scaled_by (behind w 23 2) (sized_by long (54 + 24 * behind w 49 5) (8 + 3 * behind w 49 5)) ≡ kind_at s n e x long w id
  unfolding kind_at
  kind_21 h = rw h

  pub kind_27 : id ≡ 27 → scaled_by (behind w 23 2) (speeds_at s n e x) ≡ kind_at s n e x long w id
  unfolding kind_at
  kind_27 h = rw h

  pub kind_41 : id ≡ 41 → scaled_by (behind w 23 2) (levels_at s n e x) ≡ kind_at s n e x long w id
  unfolding kind_at
  kind_41 h = rw h

  pub kind_42 : id ≡ 42 → plain (radio_at s n x 48 long 113 8) ≡ kind_at s n e x long w id
  unfolding kind_at
  kind_42 h = rw h

  pub kind_44 : id ≡ 44 → national_at s n e x long w ≡ kind_at s n e x long w id
  unfolding kind_at
  kind_44 h = rw h

  pub kind_46 : id ≡ 46 → plain (choices_at s n e x) ≡ kind_at s n e x long w id
  unfolding kind_at
  kind_46 h = rw h

  pub kind_68 : id ≡ 68 → scaled_by (behind w 23 2) (track_at s n e x long (behind w 25 1)) ≡ kind_at s n e x long w id
  unfolding kind_at
  kind_68 h = rw h

  pub kind_72 : id ≡ 72 → scaled_by (behind w 23 2) (text_at s n e x (behind w 25 2)) ≡ kind_at s n e x long w id
  unfolding kind_at
  kind_72 h = rw h

  pub kind_79 : id ≡ 79 → scaled_by (behind w 23 2) (positions_at s n e x) ≡ kind_at s n e x long w id
  unfolding kind_at
  kind_79 h = rw h

  pub kind_131 : id ≡ 131 → scaled_by (behind w 23 2) (radio_at s n x 64 long 129 9) ≡ kind_at s n e x long w id
  unfolding kind_at
  kind_131 h = rw h

  pub kind_132 : id ≡ 132 → plain (sized_by long 24 4) ≡ kind_at s n e x long w id
  unfolding kind_at
  kind_132 h = rw h

  pub kind_137 : id ≡ 137 → plain (sized_by long 24 4) ≡ kind_at s n e x long w id
  unfolding kind_at
  kind_137 h = rw h

  pub kind_254 : id ≡ 254 → plain (sized_by long 23 3) ≡ kind_at s n e x long w id
  unfolding kind_at
  kind_254 h = rw h

  -- any other
  pub kind_other : (((((((((((((Unit {0} × (id ≡ 5 → ⊥)) × (id ≡ 21 → ⊥)) × (id ≡ 27 → ⊥)) × (id ≡ 41 → ⊥)) × (id ≡ 42 → ⊥)) × (id ≡ 44 → ⊥)) × (id ≡ 46 → ⊥)) × (id ≡ 68 → ⊥)) × (id ≡ 72 → ⊥)) × (id ≡ 79 → ⊥)) × (id ≡ 131 → ⊥)) × (id ≡ 132 → ⊥)) × (id ≡ 137 → ⊥)) × (id ≡ 254 → ⊥) → plain 0 ≡ kind_at s n e x long w id
  unfolding kind_at
  kind_other h =
      rw (
        ne_eqb id 5 h.0.0.0.0.0.0.0.0.0.0.0.0.0.1,
        ne_eqb id 21 h.0.0.0.0.0.0.0.0.0.0.0.0.1,
        ne_eqb id 27 h.0.0.0.0.0.0.0.0.0.0.0.1,
        ne_eqb id 41 h.0.0.0.0.0.0.0.0.0.0.1,
        ne_eqb id 42 h.0.0.0.0.0.0.0.0.0.1,
        ne_eqb id 44 h.0.0.0.0.0.0.0.0.1,
        ne_eqb id 46 h.0.0.0.0.0.0.0.1,
        ne_eqb id 68 h.0.0.0.0.0.0.1,
        ne_eqb id 72 h.0.0.0.0.0.1,
        ne_eqb id 79 h.0.0.0.0.1,
        ne_eqb id 131 h.0.0.0.1,
        ne_eqb id 132 h.0.0.1,
        ne_eqb id 137 h.0.1,
        ne_eqb id 254 h.1,
      )

-- ---- by NID_XUSER

module _ (s : List ℕ) (n e x long w id : ℕ) where
  pub user_1 : id ≡ 1 → scaled_by (behind w 47 2) (circuits_at s n e x) ≡ user_at s n e x long w id
  unfolding user_at
  user_1 h = rw h

  pub user_2 : id ≡ 2 → scaled_by (behind w 47 2) (restricted_at s n x long) ≡ user_at s n e x long w id
  unfolding user_at
  user_2 h = rw h

  pub user_3 : id ≡ 3 → scaled_by (behind w 47 2) (sized_by long 79 9) ≡ user_at s n e x long w id
  unfolding user_at
  user_3 h = rw h

  pub user_4 : id ≡ 4 → scaled_by (behind w 47 2) (sized_by long 71 9) ≡ user_at s n e x long w id
  unfolding user_at
  user_4 h = rw h

  pub user_5 : id ≡ 5 → plain (stopping_at long (behind w 47 1)) ≡ user_at s n e x long w id
  unfolding user_at
  user_5 h = rw h

  -- any other
  pub user_other : ((((Unit {0} × (id ≡ 1 → ⊥)) × (id ≡ 2 → ⊥)) × (id ≡ 3 → ⊥)) × (id ≡ 4 → ⊥)) × (id ≡ 5 → ⊥) → plain 0 ≡ user_at s n e x long w id
  unfolding user_at
  user_other h =
      rw (
        ne_eqb id 1 h.0.0.0.0.1,
        ne_eqb id 2 h.0.0.0.1,
        ne_eqb id 3 h.0.0.1,
        ne_eqb id 4 h.0.1,
        ne_eqb id 5 h.1,
      )
