-- Looking back over bits: one hop, and where the hops end. Assumes nothing.
use Rattle.std.specs.Prelude.{Some, None, Option, ℕ}
use mathlib.Core.Bool.{Bool, true, false, ◌&&◌, ◌||◌}
use mathlib.Core.List.{List, [], ◌∷◌}
use mathlib.Core.Path.{◌≡◌, refl, sym, ap, ◌∙◌}
use Prim.Native.Nat.{ℕ, zero, suc, ◌+◌, ◌-◌, ◌≤◌, ◌<◌}
use native.Mathlib.Decide.{dec_le}
use native.Mathlib.Nat.{lt_of_not-le}
use native.Mathlib.Omega.{arith}
use lib.Dec.{eqb}
use Rattle.bits.specs.Take.{taken_at, skip_at}
use Rattle.bits.specs.declared.Cursor.{Cursor}
use Rattle.bits.proofs.Fields.{IsField, taken, take_past, skip_whole, skipped}
use Rattle.format.specs.Rules.{clash, among}
use Rattle.laws.proofs.Recalled.{among_none, among_more}
use Rattle.states.specs.Lookback.{packets_before, id_in, dir_in, long_in, hopped}

-- ---- one hop

-- no head is there
pub hopped_short : (k : ℕ) (s : List ℕ) (stop at : ℕ) → taken_at s stop 23 at ≡ None → hopped k s stop at ≡ []
unfolding hopped
hopped_short zero s stop at e = refl
hopped_short (suc k) s stop at e = rw e

-- a head is there
pub hopped_head : (k : ℕ) (s : List ℕ) (stop at a : ℕ) (c : Cursor) → taken_at s stop 23 at ≡ Some (a, c)
    → hopped (suc k) s stop at ≡ record { id = id_in a; dir = dir_in a } ∷ hopped k s stop (c.at + (long_in a - 23))
unfolding hopped
hopped_head k s stop at a c e = rw e

-- ---- the loop that hops

-- the packets from the bit at on are left to look at, and none before it collides
pub record Hopping (s : List ℕ) (stop id dir at : ℕ) : Type 0 where
  pub left : ℕ
  pub enough : stop ≤ left + at
  pub same : among clash id dir (packets_before s stop) ≡ among clash id dir (hopped left s stop at)

pub hopping_first : (s : List ℕ) (stop id dir : ℕ) → Hopping s stop id dir 50
hopping_first s stop id dir = record { left = stop; enough = omega arith; same = refl }

module _ {s : List ℕ} {stop id dir at : ℕ} (h : Hopping s stop id dir at) {t : Option (ℕ × Cursor)} (et : t ≡ taken_at s stop 23 at) where
  -- no packet is left
  pub hops_end : t ≡ None → among clash id dir (packets_before s stop) ≡ false
  hops_end e = h.same ∙ ap (among clash id dir) (hopped_short h.left s stop at (sym et ∙ e)) ∙ among_none clash id dir

  module _ {a : ℕ} {body : Cursor} (e : t ≡ Some (a, body)) where
    pub is_head : IsField s stop 23 at a body.at
    is_head = taken s stop 23 at a body (sym et ∙ e)

    -- where the next packet begins
    abbrev next : ℕ
    next = body.at + (long_in a - 23)

    abbrev hit : Bool
    hit = eqb id (id_in a) && clash dir (dir_in a)

    fewer : h.left ≡ suc (h.left - 1)
    fewer = omega (arith, h.enough, is_head.within)

    one_hop : among clash id dir (packets_before s stop) ≡ (hit || among clash id dir (hopped (h.left - 1) s stop next))
    one_hop =
        h.same
        ∙ ap (λ (k : ℕ). among clash id dir (hopped k s stop at)) fewer
        ∙ ap (among clash id dir) (hopped_head (h.left - 1) s stop at a body (sym et ∙ e))
        ∙ among_more clash id dir (id_in a) (dir_in a) (hopped (h.left - 1) s stop next)

    -- it collides with this one
    pub hops_met : hit ≡ true → among clash id dir (packets_before s stop) ≡ true
    hops_met m = one_hop ∙ rw m

    module _ (m : hit ≡ false) where
      goes_by : among clash id dir (packets_before s stop) ≡ among clash id dir (hopped (h.left - 1) s stop next)
      goes_by = one_hop ∙ rw m

      -- this one was the last
      pub hops_past : skip_at stop (long_in a - 23) body.at ≡ None → among clash id dir (packets_before s stop) ≡ false
      hops_past k = by_test (dec_le next stop)
        where
          by_test : Dec (next ≤ stop) → among clash id dir (packets_before s stop) ≡ false
          by_test (yes l) = let w = skip_whole stop (long_in a - 23) body.at l in let z : ◌≡◌ {A = ℕ} 0 1 = cc in absurd (omega arith)
          by_test (no l) =
              let past = lt_of_not-le l in
              goes_by
              ∙ ap (among clash id dir) (hopped_short (h.left - 1) s stop next (take_past s stop 23 next (omega arith) (omega arith)))
              ∙ among_none clash id dir

      module _ {c : Cursor} (k : skip_at stop (long_in a - 23) body.at ≡ Some c) where
        next_is : c.at ≡ next
        next_is = (skipped stop (long_in a - 23) body.at c k).past

        -- and on from the next
        pub hops_on : Hopping s stop id dir c.at
        hops_on = record { left = h.left - 1; enough = omega (arith, h.enough, next_is, is_head.past); same = rw next_is goes_by }

        pub hops_less : stop - c.at < stop - at
        hops_less = omega (arith, next_is, is_head.past, is_head.within)
