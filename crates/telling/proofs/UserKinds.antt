-- What decides whether a CTCS packet is told in metres, kind by kind, by the bits behind the bit x where the ETCS-44 around it begins: CTCS-1 to 4,
-- which have a scale. Assumes nothing.
use mathlib.Core.Bool.{Bool, ◌&&◌}
use mathlib.Core.List.{List}
use mathlib.Core.Option.{some}
use mathlib.Core.Path.{◌≡◌, refl, ap, ◌∙◌}
use Prim.Native.Nat.{ℕ, ◌+◌}
use native.Mathlib.Omega.{arith}
use Rattle.format.specs.Fields.{NID_XUSER, Q_SCALE, D_SIGNAL, L_TSRarea, D_STARTREVERSE, L_REVERSEAREA, D_TURNOUT, V_TURNOUT}
use Rattle.format.specs.Packets.{◌▸◌, ◌⧺◌, find, ctcs}
use Rattle.format.specs.Packets.Items.{end, send}
use Rattle.format.specs.Telegrams.{Entry}
use Rattle.laws.proofs.Headed.{with_head}
use Rattle.laws.proofs.Whole.{headed}
use Rattle.telling.proofs.AtBits.{value_there}
use Rattle.telling.proofs.Groups.{list_at, metric_list}
use Rattle.telling.proofs.Decided.{PacketAt, Decided, decided_as, user_decided}
use Rattle.telling.proofs.Lists.{metres_at, metres_only, two_metres, restriction, restriction_group, circuit, circuit_group}
use Rattle.telling.proofs.ScaledKinds.{listed}

module _ (s : List ℕ) (x : ℕ) where
  -- behind a distance at bit 49
  behind_first_lem : x + 49 + 15 ≡ x + 64
  behind_first_lem = omega arith

  -- ---- CTCS-1

  found_1 : find 1 ctcs ≡ some (with_head (send Q_SCALE (D_SIGNAL ▸ listed circuit)))
  unfolding find ctcs ◌⧺◌
  found_1 = refl

  pub metric_user_1 : {d n : ℕ} {body : List Entry} → PacketAt s x 44 d n body → value_there s NID_XUSER (x + 23) ≡ 1
      → Decided s x (headed 44 d n body) 47 (λ q. metres_at s q 15 (x + 49) && list_at s (λ y. metres_at s q 15 (y + 9)) (λ y. y + 24) (x + 64))
  unfolding ◌⧺◌
  metric_user_1 p u =
      decided_as s x
      (λ q l.
      ap (λ (b : Bool). metres_at s q 15 (x + 49) && b)
      (metric_list s q (circuit_group s q) (x + 49 + 15) ∙ ap (list_at s (λ y. metres_at s q 15 (y + 9)) (λ y. y + 24)) behind_first_lem))
      (user_decided s x 1 (D_SIGNAL ▸ listed circuit) found_1 tt p u)

  -- ---- CTCS-2

  found_2 : find 2 ctcs ≡ some (with_head (send Q_SCALE (L_TSRarea ▸ listed restriction)))
  unfolding find ctcs ◌⧺◌
  found_2 = refl

  pub metric_user_2 : {d n : ℕ} {body : List Entry} → PacketAt s x 44 d n body → value_there s NID_XUSER (x + 23) ≡ 2
      → Decided s x (headed 44 d n body) 47 (λ q. metres_at s q 15 (x + 49) && list_at s (two_metres s q) (λ y. y + 38) (x + 64))
  unfolding ◌⧺◌
  metric_user_2 p u =
      decided_as s x
      (λ q l.
      ap (λ (b : Bool). metres_at s q 15 (x + 49) && b)
      (metric_list s q (restriction_group s q) (x + 49 + 15) ∙ ap (list_at s (two_metres s q) (λ y. y + 38)) behind_first_lem))
      (user_decided s x 2 (L_TSRarea ▸ listed restriction) found_2 tt p u)

  -- ---- CTCS-3

  found_3 : find 3 ctcs ≡ some (with_head (send Q_SCALE (D_STARTREVERSE ▸ L_REVERSEAREA ▸ end)))
  unfolding find ctcs
  found_3 = refl

  pub metric_user_3 : {d n : ℕ} {body : List Entry} → PacketAt s x 44 d n body → value_there s NID_XUSER (x + 23) ≡ 3
      → Decided s x (headed 44 d n body) 47 (λ q. metres_at s q 15 (x + 49) && metres_at s q 15 (x + 64))
  metric_user_3 p u =
      decided_as s x (λ q l. ap (λ (b : Bool). metres_at s q 15 (x + 49) && b) (metres_only s q 15 (x + 49 + 15) (x + 64) behind_first_lem))
      (user_decided s x 3 (D_STARTREVERSE ▸ L_REVERSEAREA ▸ end) found_3 tt p u)

  -- ---- CTCS-4

  found_4 : find 4 ctcs ≡ some (with_head (send Q_SCALE (D_TURNOUT ▸ V_TURNOUT ▸ end)))
  unfolding find ctcs
  found_4 = refl

  pub metric_user_4 : {d n : ℕ} {body : List Entry} → PacketAt s x 44 d n body → value_there s NID_XUSER (x + 23) ≡ 4
      → Decided s x (headed 44 d n body) 47 (λ q. metres_at s q 15 (x + 49))
  metric_user_4 p u =
      decided_as s x (λ q l. metres_only s q 15 (x + 49) (x + 49) refl) (user_decided s x 4 (D_TURNOUT ▸ V_TURNOUT ▸ end) found_4 tt p u)
