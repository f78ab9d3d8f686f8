-- CTCS packets told in metres where they stand, kind by kind, by the bits behind the bit x where the ETCS-44 around them begins: CTCS-1 to 4, which
-- have a scale. What is put for each (`told-normal`, of any of them, says what then stands there). Assumes nothing.
use mathlib.Core.List.{List}
use mathlib.Core.Option.{some}
use mathlib.Core.Path.{◌≡◌, refl, ap, ◌∙◌}
use Prim.Native.Nat.{ℕ, ◌+◌}
use native.Mathlib.Omega.{arith}
use Rattle.format.specs.Fields.{NID_XUSER, Q_SCALE, D_SIGNAL, L_TSRarea, D_STARTREVERSE, L_REVERSEAREA, D_TURNOUT, V_TURNOUT}
use Rattle.format.specs.Packets.{Items, ◌▸◌, ◌⧺◌, find, ctcs}
use Rattle.format.specs.Packets.Items.{end, send}
use Rattle.format.specs.Telegrams.{Entry}
use Rattle.laws.proofs.Headed.{with_head}
use Rattle.laws.proofs.Whole.{headed}
use Rattle.telling.proofs.AtBits.{value_there}
use Rattle.telling.proofs.Decided.{PacketAt}
use Rattle.telling.proofs.Lists.{restriction, circuit}
use Rattle.telling.proofs.ScaledKinds.{listed}
use Rattle.telling.proofs.UserKinds.{metric_user_1, metric_user_2, metric_user_3, metric_user_4}
use Rattle.told.specs.Decides.{circuits_whole, restrictions_whole, reverse_whole, turnout_whole}
use Rattle.told.specs.Metres.{in_metres, list_put, two_put, circuit_put, circuits_put, restrictions_put, reverse_put, turnout_put}
use Rattle.told.proofs.ToldItems.{told_at}
use Rattle.told.proofs.ToldGroups.{told_list}
use Rattle.told.proofs.ToldLists.{put_as, restriction_puts, circuit_puts}
use Rattle.told.proofs.ToldPackets.{ToldBy, told_as, user_told}

-- ---- the items behind the scale

abbrev pub circuits : Items
circuits = D_SIGNAL ▸ listed circuit

abbrev pub restrictions : Items
restrictions = L_TSRarea ▸ listed restriction

abbrev pub reverse : Items
reverse = D_STARTREVERSE ▸ L_REVERSEAREA ▸ end

abbrev pub turnout : Items
turnout = D_TURNOUT ▸ V_TURNOUT ▸ end

module _ (s : List ℕ) (x : ℕ) where
  -- behind a distance at bit 49
  behind_first_lem : x + 49 + 15 ≡ x + 64
  behind_first_lem = omega arith

  -- ---- CTCS-1

  found_1 : find 1 ctcs ≡ some (with_head (send Q_SCALE circuits))
  unfolding find ctcs ◌⧺◌
  found_1 = refl

  pub circuits_put_lem : (q : ℕ) (out : List ℕ) → told_at s q circuits (x + 49) out ≡ circuits_put s x q out
  circuits_put_lem q out =
      let o = in_metres s q 15 (x + 49) out in
      told_list s q (circuit_puts s q) (x + 49 + 15) o ∙ ap (λ (y : ℕ). list_put s (circuit_put s q) (λ z. z + 24) y o) behind_first_lem

  pub told_user_1 : {d n : ℕ} {body : List Entry} → PacketAt s x 44 d n body → value_there s NID_XUSER (x + 23) ≡ 1
      → ToldBy s x (headed 44 d n body) 47 (circuits_whole s x) (circuits_put s x)
  unfolding ◌⧺◌
  told_user_1 p u = told_as s x circuits_put_lem (user_told s x 1 circuits found_1 tt p u (metric_user_1 s x p u))

  -- ---- CTCS-2

  found_2 : find 2 ctcs ≡ some (with_head (send Q_SCALE restrictions))
  unfolding find ctcs ◌⧺◌
  found_2 = refl

  pub restrictions_put_lem : (q : ℕ) (out : List ℕ) → told_at s q restrictions (x + 49) out ≡ restrictions_put s x q out
  restrictions_put_lem q out =
      let o = in_metres s q 15 (x + 49) out in
      told_list s q (restriction_puts s q) (x + 49 + 15) o ∙ ap (λ (y : ℕ). list_put s (two_put s q) (λ z. z + 38) y o) behind_first_lem

  pub told_user_2 : {d n : ℕ} {body : List Entry} → PacketAt s x 44 d n body → value_there s NID_XUSER (x + 23) ≡ 2
      → ToldBy s x (headed 44 d n body) 47 (restrictions_whole s x) (restrictions_put s x)
  unfolding ◌⧺◌
  told_user_2 p u = told_as s x restrictions_put_lem (user_told s x 2 restrictions found_2 tt p u (metric_user_2 s x p u))

  -- ---- CTCS-3

  found_3 : find 3 ctcs ≡ some (with_head (send Q_SCALE reverse))
  unfolding find ctcs
  found_3 = refl

  pub reverse_put_lem : (q : ℕ) (out : List ℕ) → told_at s q reverse (x + 49) out ≡ reverse_put s x q out
  reverse_put_lem q out = put_as s q 15 (x + 49 + 15) (x + 64) (in_metres s q 15 (x + 49) out) behind_first_lem

  pub told_user_3 : {d n : ℕ} {body : List Entry} → PacketAt s x 44 d n body → value_there s NID_XUSER (x + 23) ≡ 3
      → ToldBy s x (headed 44 d n body) 47 (reverse_whole s x) (reverse_put s x)
  told_user_3 p u = told_as s x reverse_put_lem (user_told s x 3 reverse found_3 tt p u (metric_user_3 s x p u))

  -- ---- CTCS-4

  found_4 : find 4 ctcs ≡ some (with_head (send Q_SCALE turnout))
  unfolding find ctcs
  found_4 = refl

  pub turnout_put_lem : (q : ℕ) (out : List ℕ) → told_at s q turnout (x + 49) out ≡ turnout_put s x q out
  turnout_put_lem q out = refl

  pub told_user_4 : {d n : ℕ} {body : List Entry} → PacketAt s x 44 d n body → value_there s NID_XUSER (x + 23) ≡ 4
      → ToldBy s x (headed 44 d n body) 47 (turnout_whole s x) (turnout_put s x)
  told_user_4 p u = told_as s x turnout_put_lem (user_told s x 4 turnout found_4 tt p u (metric_user_4 s x p u))
