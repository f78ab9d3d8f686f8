-- The lists of groups in packets, by their bits: ETCS-5, 21, 27, 41, 68 and 79, CTCS-1 and 2. What is put where a group's distances stand. Assumes
-- nothing.
use mathlib.Core.List.{List}
use mathlib.Core.Path.{◌≡◌, refl, ap, ◌∙◌}
use Prim.Native.Nat.{ℕ, ◌+◌}
use native.Mathlib.Omega.{arith}
use lib.Dec.{eqb}
use Rattle.format.specs.Fields.{N_ITER, NC_DIFF, V_DIFF}
use Rattle.format.specs.Packets.{◌▸◌}
use Rattle.format.specs.Packets.Items.{end, send_times}
use Rattle.telling.proofs.Groups.{cond_to}
use Rattle.telling.proofs.Lists.{link, link_group, slope, slope_group, profile, profile_group, level, level_group, condition, condition_group, restriction, restriction_group, place, place_group, circuit, circuit_group}
use Rattle.told.specs.Metres.{number_in, in_metres, link_end, profile_end, level_put, level_end, two_put, off_put, place_put, place_end, circuit_put}
use Rattle.told.proofs.ToldGroups.{cond_alike, told_quiet, Puts}

module _ (s : List ℕ) (q : ℕ) where
  -- one distance, by the bit where it stands
  pub put_as : (w x y : ℕ) (out : List ℕ) → x ≡ y → in_metres s q w x out ≡ in_metres s q w y out
  put_as w x y out e = ap (λ (z : ℕ). in_metres s q w z out) e

  -- ---- ETCS-5

  pub link_puts : Puts s q link (in_metres s q 15) (link_end s)
  link_puts =
      record {
        stays = tt;
        leaves = λ y out.
            let o = in_metres s q 15 y out in
            cond_alike (eqb (number_in s 1 (y + 15)) 1) o o o refl refl;
        ends = (link_group s q).ends;
      }

  -- ---- ETCS-21

  pub slope_puts : Puts s q slope (in_metres s q 15) (λ y. y + 24)
  slope_puts = record { stays = tt; leaves = λ y out. refl; ends = (slope_group s q).ends }

  -- ---- ETCS-27: of the inner list nothing is a distance

  pub profile_puts : Puts s q profile (in_metres s q 15) (profile_end s)
  profile_puts =
      record {
        stays = tt;
        leaves = λ y out. told_quiet s q (send_times N_ITER (NC_DIFF ▸ V_DIFF ▸ end) end) tt (y + 15 + 7 + 1) (in_metres s q 15 y out);
        ends = (profile_group s q).ends;
      }

  -- ---- ETCS-41

  pub level_puts : Puts s q level (level_put s q) (level_end s)
  level_puts =
      record {
        stays = tt;
        leaves = λ y out.
            cond_to (λ (k : ℕ). in_metres s q 15 (y + k) out) (eqb (number_in s 3 y) 1) 11 3 (in_metres s q 15 (y + 3 + 8) out)
            (in_metres s q 15 (y + 3) out) (put_as 15 (y + 3 + 8) (y + 11) out (omega arith)) refl;
        ends = (level_group s q).ends;
      }

  -- ---- two distances side by side: ETCS-68 and CTCS-2

  pub condition_puts : Puts s q condition (two_put s q) (λ y. y + 34)
  condition_puts = record { stays = tt; leaves = λ y out. refl; ends = (condition_group s q).ends }

  pub restriction_puts : Puts s q restriction (two_put s q) (λ y. y + 38)
  restriction_puts = record { stays = tt; leaves = λ y out. refl; ends = (restriction_group s q).ends }

  -- ---- ETCS-79

  off_put_lem : (y z : ℕ) (out : List ℕ) → y ≡ z → in_metres s q 20 (y + 15 + 1) (in_metres s q 15 y out) ≡ off_put s q z out
  off_put_lem y z out e =
      let i : y + 15 + 1 ≡ z + 16 = omega (arith, e) in
      put_as 20 (y + 15 + 1) (z + 16) (in_metres s q 15 y out) i ∙ ap (in_metres s q 20 (z + 16)) (put_as 15 y z out e)

  pub place_puts : Puts s q place (place_put s q) (place_end s)
  place_puts =
      record {
        stays = tt;
        leaves = λ y out.
            let a = y + 1 + 10 + 14 in
            let b = y + 1 + 14 in
            cond_to (λ (k : ℕ). off_put s q (y + k) out) (eqb (number_in s 1 y) 1) 25 15 (in_metres s q 20 (a + 15 + 1) (in_metres s q 15 a out))
            (in_metres s q 20 (b + 15 + 1) (in_metres s q 15 b out)) (off_put_lem a (y + 25) out (omega arith)) (off_put_lem b (y + 15) out (omega arith));
        ends = (place_group s q).ends;
      }

  -- ---- CTCS-1

  pub circuit_puts : Puts s q circuit (circuit_put s q) (λ y. y + 24)
  circuit_puts =
      record { stays = tt; leaves = λ y out. put_as 15 (y + 4 + 5) (y + 9) out (omega arith); ends = (circuit_group s q).ends }
