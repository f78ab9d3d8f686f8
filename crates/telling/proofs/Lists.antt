-- The lists of groups in packets, by their bits: ETCS-5, 21, 27, 41, 68 and 79, CTCS-1 and 2. What a group asks of its distances, and where it ends.
-- Assumes nothing.
use mathlib.Core.Bool.{Bool, true, false, cond, ◌&&◌}
use mathlib.Core.List.{List}
use mathlib.Core.Path.{◌≡◌, refl, ap, ap₂, ◌∙◌}
use Prim.Native.Nat.{ℕ, ◌+◌, ◌*◌}
use native.Mathlib.Omega.{arith}
use lib.Dec.{eqb}
use Rattle.bits.specs.Ahead.{number_at}
use Rattle.format.specs.Fields.{steers, N_ITER, D_LINK, Q_NEWCOUNTRY, NID_C, NID_BG, Q_LINKORIENTATION, Q_LINKREACTION, Q_LOCACC, D_GRADIENT, Q_GDIR, G_A, D_STATIC, V_STATIC, Q_FRONT, NC_DIFF, V_DIFF, M_LEVELTR, NID_STM, L_ACKLEVELTR, D_TRACKCOND, L_TRACKCOND, M_TRACKCOND, D_POSOFF, Q_MPOSITION, M_POSITION, NID_SIGNAL, NID_FREQUENCY, L_SECTION, D_TSR, L_TSR, V_TSR}
use Rattle.format.specs.Packets.{Items, ◌▸◌}
use Rattle.format.specs.Packets.Items.{end, send_if, send_times}
use Rattle.telling.proofs.AtBits.{value_there, whole_metres, and_true}
use Rattle.telling.proofs.ByItems.{rounds}
use Rattle.telling.proofs.Groups.{rounds_same, rounds_wide, cond_to, metric_quiet, Group}

-- ---- the groups

-- of ETCS-5, 21, 27, 41, 68 and 79, CTCS-1 and 2
abbrev pub link : Items
link = D_LINK ▸ send_if Q_NEWCOUNTRY NID_C (NID_BG ▸ Q_LINKORIENTATION ▸ Q_LINKREACTION ▸ Q_LOCACC ▸ end)

abbrev pub slope : Items
slope = D_GRADIENT ▸ Q_GDIR ▸ G_A ▸ end

abbrev differences : Items
differences = send_times N_ITER (NC_DIFF ▸ V_DIFF ▸ end) end

abbrev pub profile : Items
profile = D_STATIC ▸ V_STATIC ▸ Q_FRONT ▸ differences

abbrev pub level : Items
level = send_if M_LEVELTR NID_STM (L_ACKLEVELTR ▸ end)

abbrev pub condition : Items
condition = D_TRACKCOND ▸ L_TRACKCOND ▸ M_TRACKCOND ▸ end

abbrev pub restriction : Items
restriction = D_TSR ▸ L_TSR ▸ Q_FRONT ▸ V_TSR ▸ end

abbrev pub place : Items
place = send_if Q_NEWCOUNTRY NID_C (NID_BG ▸ D_POSOFF ▸ Q_MPOSITION ▸ M_POSITION ▸ end)

abbrev pub circuit : Items
circuit = NID_SIGNAL ▸ NID_FREQUENCY ▸ L_SECTION ▸ end

-- ---- one distance

-- a distance of w bits at the bit x is, under the scale q, a whole number of metres that fits
abbrev pub metres_at : List ℕ → ℕ → ℕ → ℕ → Bool
metres_at s q w x = whole_metres q w (number_at s w x)

pub metres_at_lem : (s : List ℕ) (q w x y : ℕ) → x ≡ y → metres_at s q w x ≡ metres_at s q w y
metres_at_lem s q w x y e = ap (metres_at s q w) e

-- one distance, and nothing more
pub metres_only : (s : List ℕ) (q w x y : ℕ) → x ≡ y → (metres_at s q w x && true) ≡ metres_at s q w y
metres_only s q w x y e = and_true (metres_at s q w x) ∙ metres_at_lem s q w x y e

pub cond_same : (c : Bool) → cond c true true ≡ true
cond_same true = refl
cond_same false = refl

cond_plus : (c : Bool) (y a b m n : ℕ) → a ≡ y + m → b ≡ y + n → cond c a b ≡ y + cond c m n
cond_plus c y a b m n h i = cond_to (λ (k : ℕ). y + k) c m n a b h i

module _ (s : List ℕ) where
  -- ---- ETCS-5

  -- "NID_C 10 only if that is 1"
  abbrev pub link_past : ℕ → ℕ
  link_past y = y + cond (eqb (value_there s (steers Q_NEWCOUNTRY) (y + 15)) 1) 49 39

  pub link_group : (q : ℕ) → Group s q link (metres_at s q 15) link_past
  link_group q =
      record {
        stays = tt;
        asks = λ y.
            let m = metres_at s q 15 y in
            ap (λ (b : Bool). m && b) (cond_same (eqb (value_there s (steers Q_NEWCOUNTRY) (y + 15)) 1)) ∙ and_true m;
        ends = λ y.
            cond_plus (eqb (value_there s (steers Q_NEWCOUNTRY) (y + 15)) 1) y (y + 15 + 1 + 10 + 14 + 1 + 2 + 6) (y + 15 + 1 + 14 + 1 + 2 + 6) 49 39
            (omega arith) (omega arith);
      }

  -- ---- ETCS-21

  pub slope_group : (q : ℕ) → Group s q slope (metres_at s q 15) (λ y. y + 24)
  slope_group q = record { stays = tt; asks = λ y. metres_only s q 15 y y refl; ends = λ y. omega arith }

  -- ---- ETCS-27: of the inner list nothing is a distance

  abbrev pub profile_past : ℕ → ℕ
  profile_past y = y + 28 + 11 * value_there s (steers N_ITER) (y + 23)

  profile_ends : (y z : ℕ) → y + 15 + 7 + 1 ≡ z → rounds (λ x. x + 4 + 7) (value_there s (steers N_ITER) (y + 15 + 7 + 1)) (y + 15 + 7 + 1 + 5)
      ≡ y + 28 + 11 * value_there s (steers N_ITER) z
  profile_ends y z e =
      let k = value_there s (steers N_ITER) (y + 15 + 7 + 1) in
      let h : k ≡ value_there s (steers N_ITER) z = ap (value_there s (steers N_ITER)) e in
      rounds_same (λ x. x + 4 + 7) (λ x. x + 11) (λ x. omega arith) k (y + 15 + 7 + 1 + 5)
      ∙ rounds_wide 11 k (y + 15 + 7 + 1 + 5)
      ∙ omega (arith, h)

  pub profile_group : (q : ℕ) → Group s q profile (metres_at s q 15) profile_past
  profile_group q =
      record {
        stays = tt;
        asks = λ y.
            let m = metres_at s q 15 y in
            ap (λ (b : Bool). m && b) (metric_quiet s q differences tt (y + 15 + 7 + 1)) ∙ and_true m;
        ends = λ y. profile_ends y (y + 23) (omega arith);
      }

  -- ---- ETCS-41

  -- "NID_STM 8 only if that is 1"
  abbrev by_level : ℕ → Bool
  by_level y = eqb (value_there s (steers M_LEVELTR) y) 1

  abbrev pub level_metres : ℕ → ℕ → Bool
  level_metres q y = metres_at s q 15 (y + cond (by_level y) 11 3)

  abbrev pub level_past : ℕ → ℕ
  level_past y = y + cond (by_level y) 26 18

  pub level_group : (q : ℕ) → Group s q level (level_metres q) level_past
  level_group q =
      record {
        stays = tt;
        asks = λ y.
            cond_to (λ (k : ℕ). metres_at s q 15 (y + k)) (by_level y) 11 3 (metres_at s q 15 (y + 3 + 8) && true) (metres_at s q 15 (y + 3) && true)
            (metres_only s q 15 (y + 3 + 8) (y + 11) (omega arith)) (metres_only s q 15 (y + 3) (y + 3) refl);
        ends = λ y. cond_plus (by_level y) y (y + 3 + 8 + 15) (y + 3 + 15) 26 18 (omega arith) (omega arith);
      }

  -- ---- two distances side by side: ETCS-68 and CTCS-2

  abbrev pub two_metres : ℕ → ℕ → Bool
  two_metres q y = metres_at s q 15 y && metres_at s q 15 (y + 15)

  two_only : (q y : ℕ) → (metres_at s q 15 y && (metres_at s q 15 (y + 15) && true)) ≡ two_metres q y
  two_only q y = ap (λ (b : Bool). metres_at s q 15 y && b) (and_true (metres_at s q 15 (y + 15)))

  pub condition_group : (q : ℕ) → Group s q condition (two_metres q) (λ y. y + 34)
  condition_group q = record { stays = tt; asks = two_only q; ends = λ y. omega arith }

  pub restriction_group : (q : ℕ) → Group s q restriction (two_metres q) (λ y. y + 38)
  restriction_group q = record { stays = tt; asks = two_only q; ends = λ y. omega arith }

  -- ---- ETCS-79

  abbrev by_country : ℕ → Bool
  by_country y = eqb (value_there s (steers Q_NEWCOUNTRY) y) 1

  -- D_POSOFF, and M_POSITION behind it and Q_MPOSITION
  abbrev off_metres : ℕ → ℕ → Bool
  off_metres q y = metres_at s q 15 y && metres_at s q 20 (y + 16)

  abbrev pub place_metres : ℕ → ℕ → Bool
  place_metres q y = off_metres q (y + cond (by_country y) 25 15)

  abbrev pub place_past : ℕ → ℕ
  place_past y = y + cond (by_country y) 61 51

  off_only : (q y z : ℕ) → y ≡ z → (metres_at s q 15 y && (metres_at s q 20 (y + 15 + 1) && true)) ≡ off_metres q z
  off_only q y z e =
      let i : y + 15 + 1 ≡ z + 16 = omega (arith, e) in
      ap₂ ◌&&◌ (metres_at_lem s q 15 y z e) (metres_only s q 20 (y + 15 + 1) (z + 16) i)

  pub place_group : (q : ℕ) → Group s q place (place_metres q) place_past
  place_group q =
      record {
        stays = tt;
        asks = λ y.
            let a = y + 1 + 10 + 14 in
            let b = y + 1 + 14 in
            cond_to (λ (k : ℕ). off_metres q (y + k)) (by_country y) 25 15 (metres_at s q 15 a && (metres_at s q 20 (a + 15 + 1) && true))
            (metres_at s q 15 b && (metres_at s q 20 (b + 15 + 1) && true)) (off_only q a (y + 25) (omega arith)) (off_only q b (y + 15) (omega arith));
        ends = λ y. cond_plus (by_country y) y (y + 1 + 10 + 14 + 15 + 1 + 20) (y + 1 + 14 + 15 + 1 + 20) 61 51 (omega arith) (omega arith);
      }

  -- ---- CTCS-1

  pub circuit_group : (q : ℕ) → Group s q circuit (λ y. metres_at s q 15 (y + 9)) (λ y. y + 24)
  circuit_group q = record { stays = tt; asks = λ y. metres_only s q 15 (y + 4 + 5) (y + 9) (omega arith); ends = λ y. omega arith }
