-- A level with the NID_STM that stands behind it where it is 1, and the groups of ETCS-41 and ETCS-46. Assumes nothing.
use mathlib.Core.Bool.{Bool, true, false, cond, ◌&&◌}
use mathlib.Core.List.{List}
use mathlib.Core.Path.{◌≡◌, refl, sym, ◌∙◌}
use Prim.Native.Nat.{ℕ, ◌+◌, ◌*◌, ◌/◌, ◌≤◌, ◌<◌}
use Prim.Native.String.{String}
use native.Mathlib.Omega.{arith}
use borrow.Author.Tests.{eqb-true, eqb-false, leb-true}
use lib.Dec.{eqb, leb}
use lib.ListN.{length}
use Rattle.bits.specs.Ahead.{behind}
use Rattle.bits.specs.Bits.{value_of}
use Rattle.bits.specs.Take.{field_bits}
use Rattle.bits.proofs.Sight.{Ahead}
use Rattle.format.specs.Fields.{Switch, M_LEVELTR, NID_STM, L_ACKLEVELTR}
use Rattle.format.specs.Fields.Rule.{within}
use Rattle.format.specs.Packets.{Items, ◌▸◌, ◌⧺◌}
use Rattle.format.specs.Packets.Items.{end, send_if}
use Rattle.format.specs.Rules.{next}
use Rattle.hops.specs.Hops.{hop, level_in, leveled, transition_in, choice_in}
use Rattle.passing.proofs.Passing.{Passed, passed_so, passed_then, passed_one, passed_with, passed_without}
use Rattle.passing.proofs.Sorts.{front_is}
use Rattle.counted.proofs.Groups.{Windowed}
use Rattle.counted.proofs.Tests.{cond_true, both_true, hop_true}

-- a level of three bits, 0..most
abbrev pub leveling : ℕ → String → ℕ → Switch
leveling k name most = record { number = k; name = name; width = 3; rule = within 0 most; sized = tt }

module _ (k : ℕ) (name : String) (most : ℕ) {s : List ℕ} {x w : ℕ} (a : Ahead s x w) (one : 1 ≤ most) (t : Items) where
  abbrev Ends : ℕ → Type 0
  Ends f = 0 < f → x + f ≤ 8 * length s → Passed s (send_if (leveling k name most) NID_STM t) x (1 + f / 8) t (x + f)

  first_is : x + 3 ≤ 8 * length s → value_of (field_bits s 3 x) ≡ behind w 0 3
  first_is h = front_is a 3 (omega arith) h

  with_stm : behind w 0 3 ≡ 1 → Ends (cond (leb 1 (behind w 3 8) && leb (behind w 3 8) 3) 11 0)
  unfolding next
  with_stm l some room =
      let m = behind w 3 8 in
      let e = cond_true (leb 1 m && leb m 3) 11 some in
      let both = both_true (leb 1 m) (leb m 3) e in
      let inside : x + 11 ≤ 8 * length s = rw e at room in
      let is : value_of (field_bits s 3 x) ≡ 1 = first_is (omega arith) ∙ l in
      let stm : m ≡ value_of (field_bits s 8 (x + 3)) = a.part 3 8 (omega arith) (omega arith) in
      let low = rw stm at (leb-true 1 m both.0) in
      let high = rw stm at (leb-true m 3 both.1) in
      rw e
      (passed_so (passed_then (passed_with {c = leveling k name most} {f = NID_STM} (omega arith, rw is one) is) (passed_one tt (low, high) refl))
      refl (omega arith))

  without_stm : (behind w 0 3 ≡ 1 → ⊥) → Ends (cond (leb (behind w 0 3) most) 3 0)
  without_stm l some room =
      let e = cond_true (leb (behind w 0 3) most) 3 some in
      let inside : x + 3 ≤ 8 * length s = rw e at room in
      let is = first_is (omega arith) in
      rw e
      (passed_without {c = leveling k name most} {f = NID_STM} (omega arith, rw is (leb-true (behind w 0 3) most e)) (λ h. l (sym is ∙ h)))

  pub level_passed : Ends (level_in most w)
  unfolding level_in
  level_passed = by (eqb (behind w 0 3) 1) refl
    where
      by : (b : Bool) → eqb (behind w 0 3) 1 ≡ b
          → Ends (cond b (cond (leb 1 (behind w 3 8) && leb (behind w 3 8) 3) 11 0) (cond (leb (behind w 0 3) most) 3 0))
      by true e = with_stm (eqb-true (behind w 0 3) 1 e)
      by false e = without_stm (eqb-false (behind w 0 3) 1 e)

-- ---- ETCS-41

abbrev pub transition : Items
transition = send_if M_LEVELTR NID_STM (L_ACKLEVELTR ▸ end)

pub transition_passed : (s : List ℕ) → Windowed s transition_in transition
unfolding leveled ◌⧺◌ next
transition_passed s x w a some room r =
    let b = level_in 4 w in
    let e : leb 1 b ≡ true = hop_true (leb 1 b) (hop (b + 15) (2 + b / 8)) some in
    let inside : x + (b + 15) ≤ 8 * length s = rw e at room in
    let front = level_passed 30 "M_LEVELTR" 4 a (omega arith) (L_ACKLEVELTR ▸ r) (leb-true 1 b e) (omega arith) in
    rw e (passed_so (passed_then front (passed_one tt tt refl)) (omega arith) (omega arith))

-- ---- ETCS-46

abbrev pub choice : Items
choice = send_if M_LEVELTR NID_STM end

pub choice_passed : (s : List ℕ) → Windowed s choice_in choice
unfolding leveled ◌⧺◌
choice_passed s x w a some room r =
    let b = level_in 4 w in
    let e : leb 1 b ≡ true = hop_true (leb 1 b) (hop (b + 0) (1 + b / 8)) some in
    let inside : x + (b + 0) ≤ 8 * length s = rw e at room in
    let front = level_passed 30 "M_LEVELTR" 4 a (omega arith) r (leb-true 1 b e) (omega arith) in
    rw e (passed_so front (omega arith) (omega arith))
