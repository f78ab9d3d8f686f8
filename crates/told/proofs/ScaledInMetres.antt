-- Packets told in metres where they stand, kind by kind, by the bits behind the bit x where they begin: ETCS-5, 21, 27, 41, 68, 72, 79 and 131, which
-- have a scale of their own. What is put for each (`told-normal`, of any of them, says what then stands there). Assumes nothing.
use mathlib.Core.Bool.{cond}
use mathlib.Core.List.{List}
use mathlib.Core.Option.{some}
use mathlib.Core.Path.{◌≡◌, refl, ap, ap₂, ◌∙◌}
use Prim.Native.Nat.{ℕ, ◌+◌}
use native.Mathlib.Omega.{arith}
use lib.Dec.{eqb}
use Rattle.format.specs.Fields.{Q_SCALE, D_LEVELTR, NID_C, NID_RBC, NID_RADIO, NID_STM, Q_SLEEPSESSION, Q_TRACKINIT, D_TRACKINIT, Q_TEXTCLASS, Q_TEXTDISPLAY, D_TEXTDISPLAY, M_MODETEXTDISPLAY, M_LEVELTEXTDISPLAY, L_TEXTDISPLAY, T_TEXTDISPLAY, Q_TEXTCONFIRM, L_TEXT, X_TEXT, D_RBCTR}
use Rattle.format.specs.Packets.{Items, ◌▸◌, ◌⧺◌, find, etcs}
use Rattle.format.specs.Packets.Items.{end, send, send_if, send_either, send_times}
use Rattle.format.specs.Telegrams.{Entry}
use Rattle.laws.proofs.Headed.{with_head}
use Rattle.laws.proofs.Whole.{headed}
use Rattle.telling.proofs.Groups.{cond_to}
use Rattle.telling.proofs.Decided.{PacketAt}
use Rattle.telling.proofs.Lists.{link, slope, profile, level, condition, place}
use Rattle.telling.proofs.ScaledKinds.{listed, metric_5, metric_21, metric_27, metric_41, metric_68, metric_72, metric_79, metric_131}
use Rattle.told.specs.Decides.{links_whole, slopes_whole, profiles_whole, places_whole, levels_whole, conditions_whole, words_whole, handover_whole}
use Rattle.told.specs.Metres.{number_in, in_metres, text_in_metres, list_put, level_put, level_end, two_put, links_put, slopes_put, profiles_put, places_put, levels_put, conditions_put, text_put, handover_put}
use Rattle.told.proofs.ToldItems.{told_at}
use Rattle.told.proofs.ToldGroups.{told_quiet, told_list}
use Rattle.told.proofs.ToldLists.{put_as, link_puts, slope_puts, profile_puts, level_puts, condition_puts, place_puts}
use Rattle.told.proofs.ToldPackets.{ToldBy, told_as, kind_told}

-- ---- the items behind the scale of ETCS-41, 68, 72 and 131; of the others they are a list

abbrev pub levels : Items
levels = D_LEVELTR ▸ listed level

abbrev pub conditions : Items
conditions = send_either Q_TRACKINIT (D_TRACKINIT ▸ end) (listed condition)

-- behind the text length nothing is a distance
abbrev behind_text : Items
behind_text = T_TEXTDISPLAY ▸ M_MODETEXTDISPLAY ▸ send_if M_LEVELTEXTDISPLAY NID_STM (Q_TEXTCONFIRM ▸ send_times L_TEXT (X_TEXT ▸ end) end)

abbrev pub text : Items
text = Q_TEXTCLASS ▸ Q_TEXTDISPLAY ▸ D_TEXTDISPLAY ▸ M_MODETEXTDISPLAY ▸ send_if M_LEVELTEXTDISPLAY NID_STM (L_TEXTDISPLAY ▸ behind_text)

abbrev pub handover : Items
handover = D_RBCTR ▸ NID_C ▸ NID_RBC ▸ NID_RADIO ▸ Q_SLEEPSESSION ▸ end

module _ (s : List ℕ) (x : ℕ) where
  -- ---- ETCS-5, 21, 27 and 79: a list

  found_5 : find 5 etcs ≡ some (with_head (send Q_SCALE (listed link)))
  unfolding find etcs ◌⧺◌
  found_5 = refl

  pub links_put_lem : (q : ℕ) (out : List ℕ) → told_at s q (listed link) (x + 25) out ≡ links_put s x q out
  links_put_lem q out = told_list s q (link_puts s q) (x + 25) out

  pub told_5 : {d n : ℕ} {body : List Entry} → PacketAt s x 5 d n body → ToldBy s x (headed 5 d n body) 23 (links_whole s x) (links_put s x)
  unfolding ◌⧺◌
  told_5 p = told_as s x links_put_lem (kind_told s x 5 (listed link) found_5 tt p (metric_5 s x p))

  found_21 : find 21 etcs ≡ some (with_head (send Q_SCALE (listed slope)))
  unfolding find etcs ◌⧺◌
  found_21 = refl

  pub slopes_put_lem : (q : ℕ) (out : List ℕ) → told_at s q (listed slope) (x + 25) out ≡ slopes_put s x q out
  slopes_put_lem q out = told_list s q (slope_puts s q) (x + 25) out

  pub told_21 : {d n : ℕ} {body : List Entry} → PacketAt s x 21 d n body → ToldBy s x (headed 21 d n body) 23 (slopes_whole s x) (slopes_put s x)
  unfolding ◌⧺◌
  told_21 p = told_as s x slopes_put_lem (kind_told s x 21 (listed slope) found_21 tt p (metric_21 s x p))

  found_27 : find 27 etcs ≡ some (with_head (send Q_SCALE (listed profile)))
  unfolding find etcs ◌⧺◌
  found_27 = refl

  pub profiles_put_lem : (q : ℕ) (out : List ℕ) → told_at s q (listed profile) (x + 25) out ≡ profiles_put s x q out
  profiles_put_lem q out = told_list s q (profile_puts s q) (x + 25) out

  pub told_27 : {d n : ℕ} {body : List Entry} → PacketAt s x 27 d n body → ToldBy s x (headed 27 d n body) 23 (profiles_whole s x) (profiles_put s x)
  unfolding ◌⧺◌
  told_27 p = told_as s x profiles_put_lem (kind_told s x 27 (listed profile) found_27 tt p (metric_27 s x p))

  found_79 : find 79 etcs ≡ some (with_head (send Q_SCALE (listed place)))
  unfolding find etcs ◌⧺◌
  found_79 = refl

  pub places_put_lem : (q : ℕ) (out : List ℕ) → told_at s q (listed place) (x + 25) out ≡ places_put s x q out
  places_put_lem q out = told_list s q (place_puts s q) (x + 25) out

  pub told_79 : {d n : ℕ} {body : List Entry} → PacketAt s x 79 d n body → ToldBy s x (headed 79 d n body) 23 (places_whole s x) (places_put s x)
  unfolding ◌⧺◌
  told_79 p = told_as s x places_put_lem (kind_told s x 79 (listed place) found_79 tt p (metric_79 s x p))

  -- ---- ETCS-41: a distance, and a list

  found_41 : find 41 etcs ≡ some (with_head (send Q_SCALE levels))
  unfolding find etcs ◌⧺◌
  found_41 = refl

  pub levels_put_lem : (q : ℕ) (out : List ℕ) → told_at s q levels (x + 25) out ≡ levels_put s x q out
  levels_put_lem q out =
      let o = in_metres s q 15 (x + 25) out in
      told_list s q (level_puts s q) (x + 25 + 15) o ∙ ap (λ (y : ℕ). list_put s (level_put s q) (level_end s) y o) forty
    where
      forty : x + 25 + 15 ≡ x + 40
      forty = omega arith

  pub told_41 : {d n : ℕ} {body : List Entry} → PacketAt s x 41 d n body → ToldBy s x (headed 41 d n body) 23 (levels_whole s x) (levels_put s x)
  unfolding ◌⧺◌
  told_41 p = told_as s x levels_put_lem (kind_told s x 41 levels found_41 tt p (metric_41 s x p))

  -- ---- ETCS-68: "If 1: D_TRACKINIT 15 and the packet ends. If 0: .. list"

  found_68 : find 68 etcs ≡ some (with_head (send Q_SCALE conditions))
  unfolding find etcs ◌⧺◌
  found_68 = refl

  pub conditions_put_lem : (q : ℕ) (out : List ℕ) → told_at s q conditions (x + 25) out ≡ conditions_put s x q out
  conditions_put_lem q out =
      ap₂ (cond (eqb (number_in s 1 (x + 25)) 1)) (put_as s q 15 (x + 25 + 1) (x + 26) out next)
      (told_list s q (condition_puts s q) (x + 25 + 1) out ∙ ap (λ (y : ℕ). list_put s (two_put s q) (λ z. z + 34) y out) next)
    where
      next : x + 25 + 1 ≡ x + 26
      next = omega arith

  pub told_68 : {d n : ℕ} {body : List Entry} → PacketAt s x 68 d n body
      → ToldBy s x (headed 68 d n body) 23 (conditions_whole s x) (conditions_put s x)
  unfolding ◌⧺◌
  told_68 p = told_as s x conditions_put_lem (kind_told s x 68 conditions found_68 tt p (metric_68 s x p))

  -- ---- ETCS-72: a distance, and a length that can be unlimited

  found_72 : find 72 etcs ≡ some (with_head (send Q_SCALE text))
  unfolding find etcs
  found_72 = refl

  pub text_put_lem : (q : ℕ) (out : List ℕ) → told_at s q text (x + 25) out ≡ text_put s x q out
  text_put_lem q out =
      let y = x + 25 + 2 + 1 + 15 + 4 in
      let o = in_metres s q 15 (x + 25 + 2 + 1) out in
      let part : ℕ → List ℕ = λ z. told_at s q behind_text (z + 15) (text_in_metres s q z o) in
      let far : ℕ → ℕ = λ z. x + cond (eqb (number_in s 3 z) 1) 58 50 in
      cond_to (λ (k : ℕ). text_in_metres s q (x + k) o) (eqb (number_in s 3 y) 1) 58 50 (part (y + 3 + 8)) (part (y + 3))
      (long_put (y + 3 + 8) (x + 58) o (omega arith)) (long_put (y + 3) (x + 50) o (omega arith))
      ∙ ap (λ (z : ℕ). text_in_metres s q (far z) o) at_level
      ∙ ap (text_in_metres s q (far (x + 47))) (put_as s q 15 (x + 25 + 2 + 1) (x + 28) out (omega arith))
    where
      at_level : x + 25 + 2 + 1 + 15 + 4 ≡ x + 47
      at_level = omega arith

      -- the text length, and nothing more
      long_put : (y z : ℕ) (o : List ℕ) → y ≡ z → told_at s q behind_text (y + 15) (text_in_metres s q y o) ≡ text_in_metres s q z o
      long_put y z o e = told_quiet s q behind_text tt (y + 15) (text_in_metres s q y o) ∙ ap (λ (k : ℕ). text_in_metres s q k o) e

  pub told_72 : {d n : ℕ} {body : List Entry} → PacketAt s x 72 d n body → ToldBy s x (headed 72 d n body) 23 (words_whole s x) (text_put s x)
  told_72 p = told_as s x text_put_lem (kind_told s x 72 text found_72 tt p (metric_72 s x p))

  -- ---- ETCS-131: a distance

  found_131 : find 131 etcs ≡ some (with_head (send Q_SCALE handover))
  unfolding find etcs
  found_131 = refl

  pub handover_put_lem : (q : ℕ) (out : List ℕ) → told_at s q handover (x + 25) out ≡ handover_put s x q out
  handover_put_lem q out = refl

  pub told_131 : {d n : ℕ} {body : List Entry} → PacketAt s x 131 d n body → ToldBy s x (headed 131 d n body) 23 (handover_whole s x) (handover_put s x)
  told_131 p = told_as s x handover_put_lem (kind_told s x 131 handover found_131 tt p (metric_131 s x p))
