-- The rows say what the packets' items say, and hang together: each a test that the checker computes over all of them.
-- Assumes nothing.
use mathlib.Core.Path.{◌≡◌, refl, ◌∙◌, subst, sym, ap}
use mathlib.Core.Bool.{Bool, true, false, cond, ◌&&◌}
use mathlib.Core.List.{List, [], ◌∷◌, map}
use mathlib.Core.Option.{Option, some, none}
use Prim.Native.Nat.{ℕ, zero, suc, ◌+◌, ◌-◌, ◌/◌, ◌%◌, ◌<◌, ◌≤◌}
use native.Mathlib.Nat.{add-zero, zero-add, add-suc, suc-add, le_of_suc-le-suc, not-suc-le-zero}
use native.Mathlib.Omega.{arith}
use borrow.Author.Tests.{eq-eqb, lt-ltb}
use lib.Dec.{T, eqb, eqb→eq, leb, leb→le, ltb, ltb→lt}
use lib.ListN.{length, get_or, get_or-map}
use Rattle.format.specs.Fields.{Field, steers, NID_PACKET, NID_XUSER}
use Rattle.format.specs.Packets.{Items, Packet, header, etcs, ctcs, find}
use Rattle.format.specs.Packets.Items.{end, nest, send, send_if, send_either, send_times}
use Rattle.format.specs.Table.{Row, row, rows, row_at, act, field_at, jump, up, switch_of, shape, nodes_from, node, Start, start_of, packet_starts, etcs_from, ctcs_from, etcs_row, ctcs_row, code_of, rest, words, field_numbers}

-- ---- a test at each element of a list

abbrev pub imp : Bool → Bool → Bool
imp true b = b
imp false b = true

pub and_left : (a b : Bool) → T (a && b) → T a
and_left true b t = tt
and_left false b t = t

pub and_right : (a b : Bool) → T (a && b) → T b
and_right true b t = t
and_right false b t = absurd t

pub imp_use : (a b : Bool) → T (imp a b) → a ≡ true → T b
imp_use true b t e = t
imp_use false b t e = absurd (subst T (sym e) tt)

abbrev pub every : {A : Type 0} → (ℕ → A → Bool) → ℕ → List A → Bool
every f i [] = true
every f i (x ∷ xs) = f i x && every f (suc i) xs

module _ {A : Type 0} (f : ℕ → A → Bool) (d : A) where
  from : (xs : List A) (i : ℕ) → T (every f i xs) → (k : ℕ) → k < length xs → T (f (i + k) (get_or xs k d))
  from [] i t k h = absurd (not-suc-le-zero h)
  from (x ∷ xs) i t zero h = rw add-zero (and_left (f i x) (every f (suc i) xs) t)
  from (x ∷ xs) i t (suc k) h =
      subst (λ (m : ℕ). T (f m (get_or xs k d))) (suc-add i k ∙ sym (add-suc i k))
      (from xs (suc i) (and_right (f i x) (every f (suc i) xs) t) k (le_of_suc-le-suc h))

  pub each : (xs : List A) → T (every f 0 xs) → (k : ℕ) → k < length xs → T (f k (get_or xs k d))
  each xs t k h = subst (λ (m : ℕ). T (f m (get_or xs k d))) (zero-add k) (from xs 0 t k h)

row_count : length rows ≡ 213
unfolding rows
row_count = refl

pub row_law : (f : ℕ → Row → Bool) → T (every f 0 rows) → (k : ℕ) → k < 213 → T (f k (row_at k))
unfolding row_at
row_law f t k h = each f (row 0 NID_PACKET 0 0) rows t k (rw row_count h)

-- what holds of the rows of one act
act_law : (a : ℕ) (g h : ℕ → ℕ) → T (every (λ k r. imp (eqb r.act a) (eqb (g k) (h k))) 0 rows)
    → (k : ℕ) → k < 213 → act k ≡ a → g k ≡ h k
act_law a g h t k l e =
    eqb→eq (g k) (h k) (imp_use (eqb (act k) a) (eqb (g k) (h k)) (row_law _ t k l) (eq-eqb (act k) a e))

-- ---- how the rows hang together

pub act_small : (k : ℕ) → k < 213 → act k < 6
unfolding rows
act_small k l = ltb→lt _ _ (row_law (λ k r. ltb r.act 6) tt k l)

pub jump_in : (k : ℕ) → k < 213 → jump k < 213
unfolding rows
jump_in k l = ltb→lt _ _ (row_law (λ k r. ltb r.jump 213) tt k l)

pub up_in : (k : ℕ) → k < 213 → up k < 213
unfolding rows
up_in k l = ltb→lt _ _ (row_law (λ k r. ltb r.up 213) tt k l)

-- a row that is no end is not the last
pub next_in : (k : ℕ) → k < 213 → 1 < act k → suc k < 213
unfolding rows
next_in k l e =
    ltb→lt _ _
    (imp_use (ltb 1 (act k)) (ltb (suc k) 213) (row_law (λ k r. imp (ltb 1 r.act) (ltb (suc k) 213)) tt k l) (lt-ltb 1 (act k) e))

pub three_up : (k : ℕ) → k < 213 → up (up (up k)) ≡ 0
unfolding row_at
three_up k l = eqb→eq _ _ (row_law (λ k r. eqb (up (up r.up)) 0) tt k l)

pub end_jump : (k : ℕ) → k < 213 → act k ≡ 0 → jump k ≡ up k
unfolding row_at
end_jump = act_law 0 jump up tt

-- a field, one with a next only if it is 1, and one that chooses, stand in the same group as what follows
pub next_up : (k : ℕ) → k < 213 → 1 < act k → act k < 5 → up (suc k) ≡ up k
unfolding row_at
next_up k l e h =
    eqb→eq _ _
    (imp_use (ltb 1 (act k) && ltb (act k) 5) (eqb (up (suc k)) (up k))
    (row_law (λ k r. imp (ltb 1 r.act && ltb r.act 5) (eqb (up (suc k)) (up k))) tt k l)
    (rw (lt-ltb 1 (act k) e, lt-ltb (act k) 5 h)))

pub jump_up : (k : ℕ) → k < 213 → 2 < act k → up (jump k) ≡ up k
unfolding row_at
jump_up k l e =
    eqb→eq _ _
    (imp_use (ltb 2 (act k)) (eqb (up (jump k)) (up k)) (row_law (λ k r. imp (ltb 2 r.act) (eqb (up r.jump) r.up)) tt k l) (lt-ltb 2 (act k) e))

pub group_up : (k : ℕ) → k < 213 → act k ≡ 5 → up (suc k) ≡ k
unfolding row_at
group_up = act_law 5 (λ k. up (suc k)) (λ k. k) tt

pub two_up : (k : ℕ) → k < 213 → act k ≡ 5 → up (up k) ≡ 0
unfolding row_at
two_up = act_law 5 (λ k. up (up k)) (λ k. 0) tt

-- a group is not empty
pub group_starts : (k : ℕ) → k < 213 → act k ≡ 5 → 1 < act (suc k)
unfolding row_at
group_starts k l e =
    ltb→lt _ _
    (imp_use (eqb (act k) 5) (ltb 1 (act (suc k))) (row_law (λ k r. imp (eqb r.act 5) (ltb 1 (act (suc k)))) tt k l) (eq-eqb (act k) 5 e))

-- what holds a group repeats
pub up_repeats : (k : ℕ) → k < 213 → 0 < up k → act (up k) ≡ 5
unfolding row_at
up_repeats k l e =
    eqb→eq _ _
    (imp_use (ltb 0 (up k)) (eqb (act (up k)) 5) (row_law (λ k r. imp (ltb 0 r.up) (eqb (act r.up) 5)) tt k l) (lt-ltb 0 (up k) e))

-- the field that is left out unless its switch is 1 is followed by what follows both
pub if_jump : (k : ℕ) → k < 213 → act k ≡ 3 → jump k ≡ suc (suc k)
unfolding row_at
if_jump = act_law 3 jump (λ k. suc (suc k)) tt

pub if_next : (k : ℕ) → k < 213 → act k ≡ 3 → act (suc k) ≡ 2
unfolding row_at
if_next = act_law 3 (λ k. act (suc k)) (λ k. 2) tt

jump_on : (k : ℕ) → k < 213 → 2 < act k → k < jump k
unfolding row_at
jump_on k l e =
    ltb→lt _ _
    (imp_use (ltb 2 (act k)) (ltb k (jump k)) (row_law (λ k r. imp (ltb 2 r.act) (ltb k r.jump)) tt k l) (lt-ltb 2 (act k) e))

-- ---- the items of a row, by its act

grown : (i : ℕ) (rs : List Row) (k : ℕ)
    → let r = get_or rs k (row 0 NID_PACKET 0 0) in
    let n = nodes_from i rs in
    get_or n k end
    ≡ shape r.act r.field (get_or rs (suc k) (row 0 NID_PACKET 0 0)).field (get_or n (suc k) end) (get_or n (suc (k + (r.jump - suc (i + k)))) end)
unfolding nodes_from shape
grown i [] k = refl
grown i (r ∷ rs) zero = simp (add-zero, zero-add)
grown i (r ∷ rs) (suc k) = simp (add-suc, suc-add) (simp suc-add at (grown (suc i) rs k))

pub shaped : (k : ℕ)
    → node k ≡ shape (act k) (field_at k) (field_at (suc k)) (node (suc k)) (node (suc (k + (jump k - suc k))))
unfolding node row_at
shaped k = simp zero-add at (grown 0 rows k)

module _ (k : ℕ) where
  by_act : (a : ℕ) → act k ≡ a
      → node k ≡ shape a (field_at k) (field_at (suc k)) (node (suc k)) (node (suc (k + (jump k - suc k))))
  by_act a e =
      shaped k ∙ ap (λ b. shape b (field_at k) (field_at (suc k)) (node (suc k)) (node (suc (k + (jump k - suc k))))) e

  pub node_end : act k ≡ 0 → node k ≡ end
  unfolding shape
  node_end e = by_act 0 e

  pub node_nest : act k ≡ 1 → node k ≡ nest
  unfolding shape
  node_nest e = by_act 1 e

  pub node_send : act k ≡ 2 → node k ≡ send (field_at k) (node (suc k))
  unfolding shape
  node_send e = by_act 2 e

  module _ (l : k < 213) where
    jumped : 2 < act k → suc (k + (jump k - suc k)) ≡ jump k
    jumped e = let h = jump_on k l e in omega arith

    pub node_if : act k ≡ 3 → node k ≡ send_if (switch_of (field_at k)) (field_at (suc k)) (node (jump k))
    unfolding shape
    node_if e = by_act 3 e ∙ ap (λ j. send_if (switch_of (field_at k)) (field_at (suc k)) (node j)) (jumped (omega arith))

    pub node_either : act k ≡ 4 → node k ≡ send_either (switch_of (field_at k)) (node (suc k)) (node (jump k))
    unfolding shape
    node_either e = by_act 4 e ∙ ap (λ j. send_either (switch_of (field_at k)) (node (suc k)) (node j)) (jumped (omega arith))

    pub node_times : act k ≡ 5 → node k ≡ send_times (switch_of (field_at k)) (node (suc k)) (node (jump k))
    unfolding shape
    node_times e = by_act 5 e ∙ ap (λ j. send_times (switch_of (field_at k)) (node (suc k)) (node j)) (jumped (omega arith))

-- ---- the rows say what the packets' items say

pub header_at : node 1 ≡ header
unfolding node header
header_at = refl

abbrev packet_at : Start → Packet
packet_at s = record { id = s.id; items = node s.row }

etcs_at : map packet_at (packet_starts etcs_from etcs) ≡ etcs
unfolding node etcs etcs_from packet_starts
etcs_at = refl

ctcs_at : map packet_at (packet_starts ctcs_from ctcs) ≡ ctcs
unfolding node ctcs ctcs_from packet_starts
ctcs_at = refl

-- the items that begin in row k; no packet's is row 0
abbrev pub root_at : ℕ → Option Items
root_at zero = none
root_at (suc k) = some (node (suc k))

abbrev begun : List Start → Bool
begun [] = true
begun (s ∷ ss) = ltb 0 s.row && (ltb s.row 213 && begun ss)

root_pos : (k : ℕ) → 0 < k → some (node k) ≡ root_at k
root_pos zero h = absurd (omega arith)
root_pos (suc k) h = refl

module _ (v : ℕ) where
  found_at : (b : Bool) (s : Start) (o : Option Items) (k : ℕ) → 0 < s.row → o ≡ root_at k
      → cond b (some (node s.row)) o ≡ root_at (cond b s.row k)
  found_at true s o k h e = root_pos s.row h
  found_at false s o k h e = e

  root_of : (ss : List Start) → T (begun ss) → find v (map packet_at ss) ≡ root_at (start_of v ss)
  unfolding find start_of
  root_of [] t = refl
  root_of (s ∷ ss) t =
      let a = and_right (ltb 0 s.row) (ltb s.row 213 && begun ss) t in
      found_at (eqb v s.id) s (find v (map packet_at ss)) (start_of v ss) (ltb→lt 0 s.row (and_left (ltb 0 s.row) (ltb s.row 213 && begun ss) t))
      (root_of ss (and_right (ltb s.row 213) (begun ss) a))

  start_in : (ss : List Start) → T (begun ss) → start_of v ss < 213
  unfolding start_of
  start_in [] t = omega arith
  start_in (s ∷ ss) t =
      let a = and_right (ltb 0 s.row) (ltb s.row 213 && begun ss) t in
      by_test (eqb v s.id) (ltb→lt s.row 213 (and_left (ltb s.row 213) (begun ss) a)) (start_in ss (and_right (ltb s.row 213) (begun ss) a))
    where
      by_test : (b : Bool) → s.row < 213 → start_of v ss < 213 → cond b s.row (start_of v ss) < 213
      by_test true h g = h
      by_test false h g = g

  pub etcs_root : find v etcs ≡ root_at (etcs_row v)
  unfolding etcs_row
  etcs_root = ap (find v) (sym etcs_at) ∙ root_of (packet_starts etcs_from etcs) tt

  pub ctcs_root : find v ctcs ≡ root_at (ctcs_row v)
  unfolding ctcs_row
  ctcs_root = ap (find v) (sym ctcs_at) ∙ root_of (packet_starts ctcs_from ctcs) tt

  pub etcs_in : etcs_row v < 213
  unfolding etcs_row
  etcs_in = start_in (packet_starts etcs_from etcs) tt

  pub ctcs_in : ctcs_row v < 213
  unfolding ctcs_row
  ctcs_in = start_in (packet_starts ctcs_from ctcs) tt

-- ---- the words of the rows

word_law : (part : ℕ → ℕ) (column : ℕ → ℕ) → T (every (λ k x. eqb (part x) (column k)) 0 words)
    → (k : ℕ) → k < 213 → part (get_or words k 0) ≡ column k
unfolding words
word_law part column t k l = eqb→eq _ _ (each (λ k x. eqb (part x) (column k)) 0 words t k l)

module _ where
  pub word_act : (k : ℕ) → k < 213 → get_or words k 0 % 8 ≡ act k
  unfolding words row_at
  word_act = word_law (λ x. x % 8) act tt

  pub word_width : (k : ℕ) → k < 213 → get_or words k 0 / 8 % 128 ≡ (field_at k).width
  unfolding words row_at
  word_width = word_law (λ x. x / 8 % 128) (λ k. (field_at k).width) tt

  pub word_rest : (k : ℕ) → k < 213 → get_or words k 0 / 1024 ≡ rest k
  unfolding words row_at
  word_rest = word_law (λ x. x / 1024) rest tt

-- ---- the numbers of the rows' fields

pub number_at : (k : ℕ) → k < 213 → get_or field_numbers k 0 ≡ (field_at k).number
unfolding field_numbers row_at
number_at k l = eqb→eq _ _ (each (λ k x. eqb x (field_at k).number) 0 field_numbers tt k l)

-- ---- a packet's first row stands in no group

-- none of these starts stands in a group
abbrev outermost : List Start → Bool
outermost [] = true
outermost (s ∷ ss) = eqb (up s.row) 0 && outermost ss

module _ (v : ℕ) where
  -- nor does the row of the identifier's packet, nor row 0 if there is none
  start_up : (ss : List Start) → T (outermost ss) → up (start_of v ss) ≡ 0
  unfolding start_of row_at
  start_up [] t = refl
  start_up (s ∷ ss) t =
      by_test (eqb v s.id) (eqb→eq (up s.row) 0 (and_left (eqb (up s.row) 0) (outermost ss) t))
      (start_up ss (and_right (eqb (up s.row) 0) (outermost ss) t))
    where
      by_test : (b : Bool) → up s.row ≡ 0 → up (start_of v ss) ≡ 0 → up (cond b s.row (start_of v ss)) ≡ 0
      by_test true h g = h
      by_test false h g = g

  pub etcs_up : up (etcs_row v) ≡ 0
  unfolding etcs_row row_at
  etcs_up = start_up (packet_starts etcs_from etcs) tt

  pub ctcs_up : up (ctcs_row v) ≡ 0
  unfolding ctcs_row row_at
  ctcs_up = start_up (packet_starts ctcs_from ctcs) tt

-- ---- the field of a row is the one that its items make due

-- the field that is due at an act, in a row with the field f
abbrev pub due_at : ℕ → Field → Field
due_at zero f = NID_PACKET
due_at (suc zero) f = NID_XUSER
due_at (suc (suc zero)) f = f
due_at (suc (suc (suc n))) f = steers (switch_of f)

-- the list of all of them is the list of the fields
all_due : map (λ r. due_at r.act r.field) rows ≡ map (λ r. r.field) rows
unfolding rows
all_due = refl

-- so each of them is the row's field
pub field_due : (k : ℕ) → due_at (act k) (field_at k) ≡ field_at k
unfolding row_at
field_due k =
    sym (get_or-map (λ r. due_at r.act r.field) rows k (row 0 NID_PACKET 0 0)) ∙ ap (λ fs. get_or fs k NID_PACKET) all_due
    ∙ get_or-map (λ r. r.field) rows k (row 0 NID_PACKET 0 0)

-- at an end, the next packet's identifier or the end mark is due
pub end_field : (k : ℕ) → act k ≡ 0 → field_at k ≡ NID_PACKET
end_field k e = sym (field_due k) ∙ ap (λ a. due_at a (field_at k)) e

-- before the CTCS packet, its identifier is
pub nest_field : (k : ℕ) → act k ≡ 1 → field_at k ≡ NID_XUSER
nest_field k e = sym (field_due k) ∙ ap (λ a. due_at a (field_at k)) e

-- row 0, which stands between packets, is an end that is no group's
pub none_act : act 0 ≡ 0
unfolding row_at
none_act = refl

pub none_up : up 0 ≡ 0
unfolding row_at
none_up = refl

-- ---- the widths of the rows' fields, by their codes

code_width : (c w : ℕ) → T (every (λ k r. imp (eqb (code_of r.field.sense) c) (eqb r.field.width w)) 0 rows)
    → (k : ℕ) → k < 213 → code_of (field_at k).sense ≡ c → (field_at k).width ≡ w
code_width c w t k l e =
    eqb→eq _ _
    (imp_use (eqb (code_of (field_at k).sense) c) (eqb (field_at k).width w) (row_law _ t k l) (eq-eqb (code_of (field_at k).sense) c e))

-- NID_PACKET has 8 bits, Q_DIR has 2 and L_PACKET has 13
pub packet_width : (k : ℕ) → k < 213 → code_of (field_at k).sense ≡ 7 → (field_at k).width ≡ 8
unfolding rows
packet_width = code_width 7 8 tt

pub direction_width : (k : ℕ) → k < 213 → code_of (field_at k).sense ≡ 9 → (field_at k).width ≡ 2
unfolding rows
direction_width = code_width 9 2 tt

pub size_width : (k : ℕ) → k < 213 → code_of (field_at k).sense ≡ 3 → (field_at k).width ≡ 13
unfolding rows
size_width = code_width 3 13 tt

-- a distance, of code 1 or 2, has at most 20 bits, and a text length 15
pub distance_narrow : (k : ℕ) → k < 213 → 0 < code_of (field_at k).sense → code_of (field_at k).sense < 3 → (field_at k).width ≤ 20
unfolding rows
distance_narrow k l a b =
    leb→le _ _
    (imp_use (ltb 0 (code_of (field_at k).sense) && ltb (code_of (field_at k).sense) 3) (leb (field_at k).width 20)
    (row_law (λ k r. imp (ltb 0 (code_of r.field.sense) && ltb (code_of r.field.sense) 3) (leb r.field.width 20)) tt k l)
    (rw (lt-ltb 0 (code_of (field_at k).sense) a, lt-ltb (code_of (field_at k).sense) 3 b)))

pub text_width : (k : ℕ) → k < 213 → code_of (field_at k).sense ≡ 2 → (field_at k).width ≡ 15
unfolding rows
text_width = code_width 2 15 tt
