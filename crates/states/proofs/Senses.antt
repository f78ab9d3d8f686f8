-- What the code of a field in the table says of its rule, and what its value then breaks. Assumes nothing.
use mathlib.Core.Path.{◌≡◌, refl, ◌∙◌, sym, ap}
use mathlib.Core.Bool.{Bool, true, false, not, ◌&&◌, ◌||◌, or-true}
use mathlib.Core.Option.{some, none}
use Prim.Native.Nat.{ℕ, zero, suc, ◌<◌, ◌≤◌}
use native.Mathlib.Omega.{arith}
use borrow.Author.Tests.{eq-eqb, ne_eqb, le-leb, lt-leb}
use lib.Dec.{eqb, leb}
use Rattle.format.specs.Fields.{Field, Rule, Sense}
use Rattle.format.specs.Fields.Rule.{any, packet, user, direction, size, pig, total, radio, within}
use Rattle.format.specs.Fields.Sense.{plain, scale, distance, text_length}
use Rattle.format.specs.Packets.{find, etcs, ctcs}
use Rattle.format.specs.Rules.{Context, Terms, rule_of, broken, misdirected, unless, forbidden, known, radio_from}
use Rattle.format.specs.Rules.Level.{in_header, in_packet, in_user}
use Rattle.format.specs.Table.{code_of, low_of, high_of, etcs_row, ctcs_row}
use Rattle.format.specs.Kinds.{etcs_start, ctcs_start}
use Rattle.format.specs.declared.Start.{Start}
use Rattle.format.specs.declared.Kind.TheVariants.{Header, Unknown, Value, Direction, Repeated}
use Rattle.format.proofs.Rows.{root_at, etcs_root, ctcs_root}
use Rattle.states.specs.Machine.{sense_of}

-- ---- the sense of a field is that of its code and range

abbrev having : Sense → Field
having k = record { number = 0; name = ""; width = 1; sense = k; sized = tt }

coded : (k : Sense) → k ≡ sense_of (code_of k) (low_of (having k)) (high_of (having k))
unfolding sense_of
coded (plain any) = refl
coded (plain packet) = refl
coded (plain user) = refl
coded (plain direction) = refl
coded (plain size) = refl
coded (plain pig) = refl
coded (plain total) = refl
coded (plain radio) = refl
coded (plain (within a b)) = refl
coded scale = refl
coded distance = refl
coded text_length = refl

ranging : (k : Sense) → 9 < code_of k → rule_of k ≡ within (low_of (having k)) (high_of (having k))
ranging (plain any) h = absurd (omega arith)
ranging (plain packet) h = absurd (omega arith)
ranging (plain user) h = absurd (omega arith)
ranging (plain direction) h = absurd (omega arith)
ranging (plain size) h = absurd (omega arith)
ranging (plain pig) h = absurd (omega arith)
ranging (plain total) h = absurd (omega arith)
ranging (plain radio) h = absurd (omega arith)
ranging (plain (within a b)) h = refl
ranging scale h = refl
ranging distance h = absurd (omega arith)
ranging text_length h = absurd (omega arith)

freeing : (p : Terms) (x : Context) (v : ℕ) (k : Sense) → code_of k < 5 → none ≡ broken p x (rule_of k) v
unfolding broken
freeing p x v (plain any) h = refl
freeing p x v (plain packet) h = absurd (omega arith)
freeing p x v (plain user) h = absurd (omega arith)
freeing p x v (plain direction) h = absurd (omega arith)
freeing p x v (plain size) h = refl
freeing p x v (plain pig) h = refl
freeing p x v (plain total) h = absurd (omega arith)
freeing p x v (plain radio) h = absurd (omega arith)
freeing p x v (plain (within a b)) h = absurd (omega arith)
freeing p x v scale h = absurd (omega arith)
freeing p x v distance h = refl
freeing p x v text_length h = refl

module _ (f : Field) where
  pub sense_is : f.sense ≡ sense_of (code_of f.sense) (low_of f) (high_of f)
  sense_is = coded f.sense

  pub rule_is : (c : ℕ) → code_of f.sense ≡ c → rule_of f.sense ≡ rule_of (sense_of c (low_of f) (high_of f))
  rule_is c e = ap rule_of (sense_is ∙ ap (λ n. sense_of n (low_of f) (high_of f)) e)

  pub rule_direction : code_of f.sense ≡ 9 → rule_of f.sense ≡ direction
  unfolding sense_of
  rule_direction e = rule_is 9 e

  pub rule_range : 9 < code_of f.sense → rule_of f.sense ≡ within (low_of f) (high_of f)
  rule_range h = ranging f.sense h

-- ---- what a value breaks, by the code of its field

module _ (p : Terms) (x : Context) (f : Field) (v : ℕ) where
  by_rule : (r : Rule) → rule_of f.sense ≡ r → broken p x r v ≡ broken p x (rule_of f.sense) v
  by_rule r e = ap (λ q. broken p x q v) (sym e)

  pub judge_free : code_of f.sense < 5 → none ≡ broken p x (rule_of f.sense) v
  judge_free h = freeing p x v f.sense h

  pub judge_total : code_of f.sense ≡ 5 → unless (leb x.pig v) Header ≡ broken p x (rule_of f.sense) v
  unfolding broken sense_of
  judge_total e = by_rule total (rule_is f 5 e)

  pub judge_radio : code_of f.sense ≡ 6 → unless (radio_from 16 false v) Value ≡ broken p x (rule_of f.sense) v
  unfolding broken sense_of
  judge_radio e = by_rule radio (rule_is f 6 e)

  pub judge_packet : code_of f.sense ≡ 7 → unless (eqb v 255 || known (find v etcs)) Unknown ≡ broken p x (rule_of f.sense) v
  unfolding broken sense_of
  judge_packet e = by_rule packet (rule_is f 7 e)

  pub judge_user : code_of f.sense ≡ 8 → unless (known (find v ctcs)) Unknown ≡ broken p x (rule_of f.sense) v
  unfolding broken sense_of
  judge_user e = by_rule user (rule_is f 8 e)

  pub judge_direction : code_of f.sense ≡ 9 → broken p x direction v ≡ broken p x (rule_of f.sense) v
  judge_direction e = by_rule direction (rule_direction f e)

  pub judge_range : 9 < code_of f.sense
      → unless (leb (low_of f) v && leb v (high_of f)) (forbidden x.level) ≡ broken p x (rule_of f.sense) v
  unfolding broken
  judge_range h = by_rule (within (low_of f) (high_of f)) (rule_range f h)

-- ---- a range

module _ (a b v : ℕ) where
  pub range_in : a ≤ v → v ≤ b → (leb a v && leb v b) ≡ true
  range_in p q = simp (le-leb a v p, le-leb v b q)

  pub range_under : v < a → (leb a v && leb v b) ≡ false
  range_under p = simp (lt-leb a v p)

  pub range_over : a ≤ v → b < v → (leb a v && leb v b) ≡ false
  range_over p q = simp (le-leb a v p, lt-leb v b q)

-- ---- N_TOTAL

module _ (n v : ℕ) where
  pub total_under : v < n → some Header ≡ unless (leb n v) Header
  total_under p = simp (lt-leb n v p)

  pub total_fits : n ≤ v → none ≡ unless (leb n v) Header
  total_fits p = simp (le-leb n v p)

-- ---- identifiers

known_none : (k : ℕ) → k ≡ 0 → known (root_at k) ≡ false
known_none zero e = refl
known_none (suc k) e = absurd (omega arith)

known_some : (k : ℕ) → (k ≡ 0 → ⊥) → known (root_at k) ≡ true
known_some zero n = absurd (n refl)
known_some (suc k) n = refl

module _ (v : ℕ) where
  pub etcs_row_lem : (s : Start) → s ≡ etcs_start v → etcs_row v ≡ s.row
  unfolding etcs_start
  etcs_row_lem s e = ap (λ (x : Start). x.row) (sym e)

  pub ctcs_row_lem : (s : Start) → s ≡ ctcs_start v → ctcs_row v ≡ s.row
  unfolding ctcs_start
  ctcs_row_lem s e = ap (λ (x : Start). x.row) (sym e)

  pub packet_mark : v ≡ 255 → none ≡ unless (eqb v 255 || known (find v etcs)) Unknown
  packet_mark e = simp (eq-eqb v 255 e)

  pub packet_none : (v ≡ 255 → ⊥) → etcs_row v ≡ 0 → some Unknown ≡ unless (eqb v 255 || known (find v etcs)) Unknown
  packet_none n e = simp (ne_eqb v 255 n, etcs_root v, known_none (etcs_row v) e)

  pub packet_some : (etcs_row v ≡ 0 → ⊥) → none ≡ unless (eqb v 255 || known (find v etcs)) Unknown
  packet_some n = simp (etcs_root v, known_some (etcs_row v) n, or-true)

  pub user_none : ctcs_row v ≡ 0 → some Unknown ≡ unless (known (find v ctcs)) Unknown
  user_none e = simp (ctcs_root v, known_none (ctcs_row v) e)

  pub user_some : (ctcs_row v ≡ 0 → ⊥) → none ≡ unless (known (find v ctcs)) Unknown
  user_some n = simp (ctcs_root v, known_some (ctcs_row v) n)

-- ---- Q_DIR

module _ (p : Terms) (x : Context) (v : ℕ) where
  pub direction_high : 2 < v → some Value ≡ broken p x direction v
  unfolding broken
  direction_high h = simp (lt-leb v 2 h)

  module _ (h : v ≤ 2) where
    by_level : broken p x direction v ≡ misdirected p x x.level v
    unfolding broken
    by_level = simp (le-leb v 2 h)

    pub direction_header : x.level ≡ in_header → none ≡ broken p x direction v
    unfolding misdirected
    direction_header e = sym (by_level ∙ ap (λ l. misdirected p x l v) e)

    in_packet_lem : (t : Bool) → x.level ≡ in_packet → p.collides x v ≡ t → unless (not t) Repeated ≡ broken p x direction v
    unfolding misdirected
    in_packet_lem t e q =
        sym (by_level ∙ ap (λ l. misdirected p x l v) e ∙ ap (λ b. unless (not b) Repeated) q)

    pub direction_twice : x.level ≡ in_packet → p.collides x v ≡ true → some Repeated ≡ broken p x direction v
    direction_twice = in_packet_lem true

    pub direction_once : x.level ≡ in_packet → p.collides x v ≡ false → none ≡ broken p x direction v
    direction_once = in_packet_lem false

    in_user_lem : (t : Bool) → x.level ≡ in_user → eqb v x.dir ≡ t → unless t Direction ≡ broken p x direction v
    unfolding misdirected
    in_user_lem t e q = sym (by_level ∙ ap (λ l. misdirected p x l v) e ∙ ap (λ b. unless b Direction) q)

    pub direction_same : x.level ≡ in_user → v ≡ x.dir → none ≡ broken p x direction v
    direction_same e q = in_user_lem true e (eq-eqb v x.dir q)

    pub direction_other : x.level ≡ in_user → (v ≡ x.dir → ⊥) → some Direction ≡ broken p x direction v
    direction_other e n = in_user_lem false e (ne_eqb v x.dir n)
