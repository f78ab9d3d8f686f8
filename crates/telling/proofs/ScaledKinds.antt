-- What decides whether a packet is told in metres, kind by kind, by its bits behind the bit x where it begins: ETCS-5, 21, 27, 41, 68, 72, 79 and
-- 131, which have a scale of their own. Assumes nothing.
use mathlib.Core.Bool.{Bool, true, false, cond, ◌&&◌}
use mathlib.Core.List.{List}
use mathlib.Core.Option.{some}
use mathlib.Core.Path.{◌≡◌, refl, ap, ap₂, ◌∙◌}
use Prim.Native.Nat.{ℕ, ◌+◌, ◌<◌, ◌≤◌}
use native.Mathlib.Omega.{arith}
use lib.Dec.{eqb}
use Rattle.bits.specs.Ahead.{number_at}
use Rattle.bits.proofs.Looked.{number_lt}
use Rattle.distance.specs.Steps.{decimetres}
use Rattle.format.specs.Fields.{steers, Q_SCALE, N_ITER, D_LEVELTR, NID_C, NID_RBC, NID_RADIO, NID_STM, Q_SLEEPSESSION, Q_TRACKINIT, D_TRACKINIT, Q_TEXTCLASS, Q_TEXTDISPLAY, D_TEXTDISPLAY, M_MODETEXTDISPLAY, M_LEVELTEXTDISPLAY, L_TEXTDISPLAY, T_TEXTDISPLAY, Q_TEXTCONFIRM, L_TEXT, X_TEXT, D_RBCTR}
use Rattle.format.specs.Packets.{Items, ◌▸◌, ◌⧺◌, find, etcs}
use Rattle.format.specs.Packets.Items.{end, send, send_if, send_either, send_times}
use Rattle.format.specs.Telegrams.{Entry}
use Rattle.format.specs.Normal.{metres}
use Rattle.laws.proofs.Headed.{with_head}
use Rattle.laws.proofs.Metres.{metres_tests}
use Rattle.laws.proofs.Whole.{headed}
use Rattle.telling.proofs.AtBits.{value_there, whole_metres, metric_field, and_true}
use Rattle.telling.proofs.ByItems.{metric_at}
use Rattle.telling.proofs.Groups.{cond_to, list_at, metric_quiet, metric_list}
use Rattle.telling.proofs.Decided.{PacketAt, Decided, decided_as, kind_decided}
use Rattle.telling.proofs.Lists.{metres_at, metres_at_lem, metres_only, link, link_past, link_group, slope, slope_group, profile, profile_past, profile_group, level, level_metres, level_past, level_group, two_metres, condition, condition_group, place, place_metres, place_past, place_group}

-- a group, N_ITER, and that many further groups
abbrev pub listed : Items → Items
listed g = g ⧺ send_times N_ITER g end

-- ---- a text length, which can be unlimited

text_field : (q v : ℕ) → q ≤ 2 → v < 32768 → metric_field q L_TEXTDISPLAY v ≡ cond (eqb v 32767) true (whole_metres q 15 v)
text_field q v hq h = by_test (eqb v 32767) refl
  where
    by_test : (b : Bool) → eqb v 32767 ≡ b → cond b true (metres L_TEXTDISPLAY (decimetres q v)) ≡ cond b true (whole_metres q 15 v)
    by_test true e = refl
    by_test false e = metres_tests L_TEXTDISPLAY q v hq (λ i. h) (rw e)

-- "L_TEXTDISPLAY 32767 is unlimited, at every scale"
abbrev pub text_metres : List ℕ → ℕ → ℕ → Bool
text_metres s q y = cond (eqb (number_at s 15 y) 32767) true (metres_at s q 15 y)

-- behind the text length nothing is a distance
abbrev behind_text : Items
behind_text = T_TEXTDISPLAY ▸ M_MODETEXTDISPLAY ▸ send_if M_LEVELTEXTDISPLAY NID_STM (Q_TEXTCONFIRM ▸ send_times L_TEXT (X_TEXT ▸ end) end)

abbrev text : Items
text = Q_TEXTCLASS ▸ Q_TEXTDISPLAY ▸ D_TEXTDISPLAY ▸ M_MODETEXTDISPLAY ▸ send_if M_LEVELTEXTDISPLAY NID_STM (L_TEXTDISPLAY ▸ behind_text)

module _ (s : List ℕ) (x : ℕ) where
  -- ---- ETCS-5, 21, 27 and 79: a list

  found_5 : find 5 etcs ≡ some (with_head (send Q_SCALE (listed link)))
  unfolding find etcs ◌⧺◌
  found_5 = refl

  pub metric_5 : {d n : ℕ} {body : List Entry} → PacketAt s x 5 d n body
      → Decided s x (headed 5 d n body) 23 (λ q. list_at s (metres_at s q 15) (link_past s) (x + 25))
  unfolding ◌⧺◌
  metric_5 p = decided_as s x (λ q l. metric_list s q (link_group s q) (x + 25)) (kind_decided s x 5 (listed link) found_5 tt p)

  found_21 : find 21 etcs ≡ some (with_head (send Q_SCALE (listed slope)))
  unfolding find etcs ◌⧺◌
  found_21 = refl

  pub metric_21 : {d n : ℕ} {body : List Entry} → PacketAt s x 21 d n body
      → Decided s x (headed 21 d n body) 23 (λ q. list_at s (metres_at s q 15) (λ y. y + 24) (x + 25))
  unfolding ◌⧺◌
  metric_21 p = decided_as s x (λ q l. metric_list s q (slope_group s q) (x + 25)) (kind_decided s x 21 (listed slope) found_21 tt p)

  found_27 : find 27 etcs ≡ some (with_head (send Q_SCALE (listed profile)))
  unfolding find etcs ◌⧺◌
  found_27 = refl

  pub metric_27 : {d n : ℕ} {body : List Entry} → PacketAt s x 27 d n body
      → Decided s x (headed 27 d n body) 23 (λ q. list_at s (metres_at s q 15) (profile_past s) (x + 25))
  unfolding ◌⧺◌
  metric_27 p = decided_as s x (λ q l. metric_list s q (profile_group s q) (x + 25)) (kind_decided s x 27 (listed profile) found_27 tt p)

  found_79 : find 79 etcs ≡ some (with_head (send Q_SCALE (listed place)))
  unfolding find etcs ◌⧺◌
  found_79 = refl

  pub metric_79 : {d n : ℕ} {body : List Entry} → PacketAt s x 79 d n body
      → Decided s x (headed 79 d n body) 23 (λ q. list_at s (place_metres s q) (place_past s) (x + 25))
  unfolding ◌⧺◌
  metric_79 p = decided_as s x (λ q l. metric_list s q (place_group s q) (x + 25)) (kind_decided s x 79 (listed place) found_79 tt p)

  -- ---- ETCS-41: a distance, and a list

  found_41 : find 41 etcs ≡ some (with_head (send Q_SCALE (D_LEVELTR ▸ listed level)))
  unfolding find etcs ◌⧺◌
  found_41 = refl

  pub metric_41 : {d n : ℕ} {body : List Entry} → PacketAt s x 41 d n body
      → Decided s x (headed 41 d n body) 23 (λ q. metres_at s q 15 (x + 25) && list_at s (level_metres s q) (level_past s) (x + 40))
  unfolding ◌⧺◌
  metric_41 p =
      decided_as s x
      (λ q l.
      ap (λ (b : Bool). metres_at s q 15 (x + 25) && b)
      (metric_list s q (level_group s q) (x + 25 + 15) ∙ ap (list_at s (level_metres s q) (level_past s)) forty))
      (kind_decided s x 41 (D_LEVELTR ▸ listed level) found_41 tt p)
    where
      forty : x + 25 + 15 ≡ x + 40
      forty = omega arith

  -- ---- ETCS-68: "If 1: D_TRACKINIT 15 and the packet ends. If 0: .. list"

  found_68 : find 68 etcs ≡ some (with_head (send Q_SCALE (send_either Q_TRACKINIT (D_TRACKINIT ▸ end) (listed condition))))
  unfolding find etcs ◌⧺◌
  found_68 = refl

  pub metric_68 : {d n : ℕ} {body : List Entry} → PacketAt s x 68 d n body
      → Decided s x (headed 68 d n body) 23
      (λ q.
      cond (eqb (value_there s (steers Q_TRACKINIT) (x + 25)) 1) (metres_at s q 15 (x + 26)) (list_at s (two_metres s q) (λ y. y + 34) (x + 26)))
  unfolding ◌⧺◌
  metric_68 p =
      decided_as s x
      (λ q l.
      ap₂ (cond (eqb (value_there s (steers Q_TRACKINIT) (x + 25)) 1)) (metres_only s q 15 (x + 25 + 1) (x + 26) next)
      (metric_list s q (condition_group s q) (x + 25 + 1) ∙ ap (list_at s (two_metres s q) (λ y. y + 34)) next))
      (kind_decided s x 68 (send_either Q_TRACKINIT (D_TRACKINIT ▸ end) (listed condition)) found_68 tt p)
    where
      next : x + 25 + 1 ≡ x + 26
      next = omega arith

  -- ---- ETCS-72: a distance, and a length that can be unlimited

  found_72 : find 72 etcs ≡ some (with_head (send Q_SCALE text))
  unfolding find etcs
  found_72 = refl

  -- by M_LEVELTEXTDISPLAY, behind which NID_STM stands if it is 1
  abbrev by_text : Bool
  by_text = eqb (value_there s (steers M_LEVELTEXTDISPLAY) (x + 47)) 1

  pub metric_72 : {d n : ℕ} {body : List Entry} → PacketAt s x 72 d n body
      → Decided s x (headed 72 d n body) 23 (λ q. metres_at s q 15 (x + 28) && text_metres s q (x + cond by_text 58 50))
  metric_72 p = decided_as s x text_is (kind_decided s x 72 text found_72 tt p)
    where
      -- the text length, and nothing more
      long_is : (q y z : ℕ) → q ≤ 2 → y ≡ z
          → (metric_field q L_TEXTDISPLAY (value_there s L_TEXTDISPLAY y) && metric_at s q behind_text (y + 15)) ≡ text_metres s q z
      long_is q y z l e =
          let m = metric_field q L_TEXTDISPLAY (value_there s L_TEXTDISPLAY y) in
          ap (λ (b : Bool). m && b) (metric_quiet s q behind_text tt (y + 15))
          ∙ and_true m
          ∙ text_field q (value_there s L_TEXTDISPLAY y) l (number_lt s 15 y)
          ∙ ap (text_metres s q) e

      text_is : (q : ℕ) → q ≤ 2 → metric_at s q text (x + 25) ≡ metres_at s q 15 (x + 28) && text_metres s q (x + cond by_text 58 50)
      text_is q l =
          let y = x + 25 + 2 + 1 + 15 + 4 in
          let e : y ≡ x + 47 = omega arith in
          let part : ℕ → Bool = λ z. metric_field q L_TEXTDISPLAY (value_there s L_TEXTDISPLAY z) && metric_at s q behind_text (z + 15) in
          ap₂ ◌&&◌ (metres_at_lem s q 15 (x + 25 + 2 + 1) (x + 28) (omega arith))
          (cond_to (λ (k : ℕ). text_metres s q (x + k)) (eqb (value_there s (steers M_LEVELTEXTDISPLAY) y) 1) 58 50 (part (y + 3 + 8)) (part (y + 3))
          (long_is q (y + 3 + 8) (x + 58) l (omega arith)) (long_is q (y + 3) (x + 50) l (omega arith))
          ∙ ap (λ (z : ℕ). text_metres s q (x + cond (eqb (value_there s (steers M_LEVELTEXTDISPLAY) z) 1) 58 50)) e)

  -- ---- ETCS-131: a distance

  found_131 : find 131 etcs ≡ some (with_head (send Q_SCALE (D_RBCTR ▸ NID_C ▸ NID_RBC ▸ NID_RADIO ▸ Q_SLEEPSESSION ▸ end)))
  unfolding find etcs
  found_131 = refl

  pub metric_131 : {d n : ℕ} {body : List Entry} → PacketAt s x 131 d n body → Decided s x (headed 131 d n body) 23 (λ q. metres_at s q 15 (x + 25))
  metric_131 p =
      decided_as s x (λ q l. metres_only s q 15 (x + 25) (x + 25) refl)
      (kind_decided s x 131 (D_RBCTR ▸ NID_C ▸ NID_RBC ▸ NID_RADIO ▸ Q_SLEEPSESSION ▸ end) found_131 tt p)
