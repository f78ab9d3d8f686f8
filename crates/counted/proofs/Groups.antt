-- A group of a list that is counted by the window at its first bit keeps its rules, field by field. Assumes nothing.
use mathlib.Core.Bool.{true, ◌&&◌}
use mathlib.Core.List.{List}
use mathlib.Core.Path.{◌≡◌, refl, sym, ◌∙◌}
use Prim.Native.Nat.{ℕ, ◌+◌, ◌*◌, ◌≤◌, ◌<◌}
use native.Mathlib.Decide.{dec_le}
use native.Mathlib.Nat.{lt_of_not-le}
use native.Mathlib.Omega.{arith}
use borrow.Author.Tests.{leb-true}
use lib.Dec.{leb}
use lib.ListN.{length}
use Rattle.bits.specs.Ahead.{behind}
use Rattle.bits.specs.Bits.{value_of}
use Rattle.bits.specs.Take.{field_bits}
use Rattle.bits.proofs.Sight.{Ahead}
use Rattle.format.specs.Fields.{D_LINK, Q_NEWCOUNTRY, NID_C, NID_BG, Q_LINKORIENTATION, Q_LINKREACTION, Q_LOCACC, D_TRACKCOND, L_TRACKCOND, M_TRACKCOND, D_POSOFF, Q_MPOSITION, M_POSITION, NID_SIGNAL, NID_FREQUENCY, L_SECTION}
use Rattle.format.specs.Packets.{Items, ◌▸◌, ◌⧺◌}
use Rattle.format.specs.Packets.Items.{end, send_if}
use Rattle.format.specs.Rules.{next}
use Rattle.hops.specs.Hops.{hop, link_in, condition_in, position_in, circuit_in}
use Rattle.hops.specs.declared.Hop.{Hop}
use Rattle.passing.proofs.Passing.{Passed, passed_so, passed_then, passed_one, passed_with, passed_without, ruled_run, free_run}
use Rattle.passing.proofs.Sorts.{front_is}
use Rattle.counted.proofs.Tests.{both_true, hop_true}

-- wherever such a group is counted by a window and lies in the bytes, it is passed, whatever follows
abbrev pub Windowed : List ℕ → (ℕ → Hop) → Items → Type 0
Windowed s f g =
    (x w : ℕ) → Ahead s x w → 0 < (f w).bits → x + (f w).bits ≤ 8 * length s → (r : Items) → Passed s (g ⧺ r) x (f w).values r (x + (f w).bits)

-- ---- NID_C only if Q_NEWCOUNTRY is 1, and fields in a row behind it

abbrev in_country : Items → Items
in_country t = send_if Q_NEWCOUNTRY NID_C t

-- 1 and 10 bits, of which c says whether the second are there
pub country_passed : {s : List ℕ} {x c : ℕ} → value_of (field_bits s 1 x) ≡ c → c ≤ 1 → (t : Items)
    → Passed s (in_country t) x (1 + c) t (x + 1 + 10 * c)
unfolding next
country_passed {s} {x} {c} e l t = by (dec_le 1 c)
  where
    by : Dec (1 ≤ c) → Passed s (in_country t) x (1 + c) t (x + 1 + 10 * c)
    by (yes h) =
        let one : value_of (field_bits s 1 x) ≡ 1 = omega (arith, e) in
        passed_so (passed_then (passed_with {c = Q_NEWCOUNTRY} {f = NID_C} tt one) (passed_one tt tt refl)) (omega arith) (omega arith)
    by (no h) =
        let z : c ≡ 0 = omega (arith, lt_of_not-le h) in
        let none : value_of (field_bits s 1 x) ≡ 1 → ⊥ = λ o. h (omega (arith, e)) in
        passed_so (passed_without {c = Q_NEWCOUNTRY} {f = NID_C} tt none) (omega arith) (omega arith)

-- ---- ETCS-5

abbrev pub link : Items
link = D_LINK ▸ in_country (NID_BG ▸ Q_LINKORIENTATION ▸ Q_LINKREACTION ▸ Q_LOCACC ▸ end)

module _ {s : List ℕ} {x w : ℕ} (a : Ahead s x w) (c : ℕ) (ec : behind w 15 1 ≡ c) (room : x + (39 + 10 * c) ≤ 8 * length s)
    (reacts : behind w (31 + 10 * c) 2 ≤ 2) where
  link_kept : (r : Items) → Passed s (link ⧺ r) x (6 + c) r (x + (39 + 10 * c))
  unfolding ◌⧺◌ next
  link_kept r =
      let few : c ≤ 1 = omega arith in
      let country : value_of (field_bits s 1 (x + 15)) ≡ c = sym (a.part 15 1 (omega arith) (omega arith)) ∙ ec in
      let there : x + 15 + 1 + 10 * c + 14 + 1 ≡ x + (31 + 10 * c) = omega arith in
      let reaction : value_of (field_bits s 2 (x + (31 + 10 * c))) ≤ 2 = rw (← (a.part (31 + 10 * c) 2 (omega arith) (omega arith))) reacts in
      let rest = ruled_run s (NID_BG ▸ Q_LINKORIENTATION ▸ Q_LINKREACTION ▸ Q_LOCACC ▸ end) r (x + 15 + 1 + 10 * c)
      (tt, (tt, ((omega arith, rw there reaction), (tt, tt)))) in
      passed_so (passed_then (passed_one tt tt refl) (passed_then (country_passed country few _) rest)) (omega arith) (omega arith)

pub link_passed : (s : List ℕ) → Windowed s link_in link
unfolding link_in
link_passed s x w a some room r =
    let c = behind w 15 1 in
    let reacts = leb (behind w (31 + 10 * c) 2) 2 in
    let e : reacts ≡ true = hop_true reacts (hop (39 + 10 * c) (6 + c)) some in
    rw e (link_kept a c refl (rw e at room) (leb-true (behind w (31 + 10 * c) 2) 2 e) r)

-- ---- ETCS-68

abbrev pub condition : Items
condition = D_TRACKCOND ▸ L_TRACKCOND ▸ M_TRACKCOND ▸ end

pub condition_passed : (s : List ℕ) → Windowed s condition_in condition
unfolding condition_in
condition_passed s x w a some room r =
    let e : leb (behind w 30 4) 9 ≡ true = hop_true (leb (behind w 30 4) 9) (hop 34 3) some in
    let inside : x + 34 ≤ 8 * length s = rw e at room in
    let there : x + 15 + 15 ≡ x + 30 = omega arith in
    let low : value_of (field_bits s 4 (x + 30)) ≤ 9 = rw (← (a.part 30 4 (omega arith) (omega arith))) (leb-true (behind w 30 4) 9 e) in
    rw e (ruled_run s condition r x (tt, (tt, ((omega arith, rw there low), tt))))

-- ---- ETCS-79

abbrev place : Items
place = NID_BG ▸ D_POSOFF ▸ Q_MPOSITION ▸ M_POSITION ▸ end

abbrev pub position : Items
position = in_country place

pub position_passed : (s : List ℕ) → Windowed s position_in position
unfolding position_in ◌⧺◌
position_passed s x w a some room r =
    let c = behind w 0 1 in
    let country : value_of (field_bits s 1 x) ≡ c = front_is a 1 (omega arith) (omega arith) in
    let rest = free_run s place r (x + 1 + 10 * c) (refl, (refl, (refl, (refl, tt)))) in
    passed_so (passed_then (country_passed country (omega arith) _) rest) (omega arith) (omega arith)

-- ---- CTCS-1

abbrev pub circuit : Items
circuit = NID_SIGNAL ▸ NID_FREQUENCY ▸ L_SECTION ▸ end

pub circuit_passed : (s : List ℕ) → Windowed s circuit_in circuit
unfolding circuit_in
circuit_passed s x w a some room r =
    let p = leb (behind w 0 4) 7 in
    let q = leb (behind w 4 5) 12 in
    let e : (p && q) ≡ true = hop_true (p && q) (hop 24 3) some in
    let inside : x + 24 ≤ 8 * length s = rw e at room in
    let both = both_true p q e in
    let first : value_of (field_bits s 4 x) ≤ 7 = rw (front_is a 4 (omega arith) (omega arith)) (leb-true (behind w 0 4) 7 both.0) in
    let second : value_of (field_bits s 5 (x + 4)) ≤ 12 = rw (← (a.part 4 5 (omega arith) (omega arith))) (leb-true (behind w 4 5) 12 both.1) in
    rw e (ruled_run s circuit r x ((omega arith, first), ((omega arith, second), (tt, tt))))
