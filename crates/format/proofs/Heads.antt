-- Every packet begins with a Q_DIR, and every Q_DIR is followed by an L_PACKET: tests that the checker computes over all packets and rows.
-- Assumes nothing.
use mathlib.Core.Bool.{Bool, true, false, cond, ◌&&◌}
use mathlib.Core.List.{List, [], ◌∷◌}
use mathlib.Core.Path.{◌≡◌, refl}
use Prim.Native.Nat.{ℕ, ◌+◌, ◌<◌}
use borrow.Author.Tests.{eq-eqb}
use lib.Dec.{T, eqb, eqb→eq}
use Rattle.format.specs.Packets.{etcs, ctcs}
use Rattle.format.specs.Table.{Row, Start, rows, row_at, act, field_at, code_of, packet_starts, etcs_from, ctcs_from, start_of, etcs_row, ctcs_row}
use Rattle.format.proofs.Rows.{imp, and_left, and_right, imp_use, row_law}

-- the rows of a Q_DIR and of the L_PACKET behind it
pub record HeadRows (k : ℕ) : Type 0 where
  pub direction : act k ≡ 2
  pub next : act (k + 1) ≡ 2
  pub size : code_of (field_at (k + 1)).sense ≡ 3

abbrev size_next : ℕ → Bool
size_next k = eqb (act (k + 1)) 2 && eqb (code_of (field_at (k + 1)).sense) 3

abbrev heads : ℕ → Row → Bool
heads k r = imp (eqb (code_of r.field.sense) 9) (eqb r.act 2 && size_next k)

pub head_rows : (k : ℕ) → k < 213 → code_of (field_at k).sense ≡ 9 → HeadRows k
unfolding rows row_at
head_rows k l e =
    let t = imp_use (eqb (code_of (field_at k).sense) 9) (eqb (act k) 2 && size_next k) (row_law heads tt k l) (eq-eqb (code_of (field_at k).sense) 9 e) in
    let u = and_right (eqb (act k) 2) (size_next k) t in
    record {
      direction = eqb→eq (act k) 2 (and_left (eqb (act k) 2) (size_next k) t);
      next = eqb→eq (act (k + 1)) 2 (and_left (eqb (act (k + 1)) 2) (eqb (code_of (field_at (k + 1)).sense) 3) u);
      size = eqb→eq (code_of (field_at (k + 1)).sense) 3 (and_right (eqb (act (k + 1)) 2) (eqb (code_of (field_at (k + 1)).sense) 3) u);
    }

-- row 0 is that of NID_PACKET
pub between : code_of (field_at 0).sense ≡ 7
unfolding row_at
between = refl

-- ---- every packet's first row is that of its Q_DIR

abbrev directed : List Start → Bool
directed [] = true
directed (s ∷ ss) = eqb (code_of (field_at s.row).sense) 9 && directed ss

module _ (v : ℕ) where
  start_directs : (ss : List Start) → T (directed ss) → (start_of v ss ≡ 0 → ⊥) → code_of (field_at (start_of v ss)).sense ≡ 9
  unfolding start_of
  start_directs [] t n = absurd (n refl)
  start_directs (s ∷ ss) t n = by_test (eqb v s.id) (start_directs ss (and_right (eqb (code_of (field_at s.row).sense) 9) (directed ss) t)) n
    where
      by_test : (b : Bool) → ((start_of v ss ≡ 0 → ⊥) → code_of (field_at (start_of v ss)).sense ≡ 9) → (cond b s.row (start_of v ss) ≡ 0 → ⊥)
          → code_of (field_at (cond b s.row (start_of v ss))).sense ≡ 9
      by_test true ih m = eqb→eq (code_of (field_at s.row).sense) 9 (and_left (eqb (code_of (field_at s.row).sense) 9) (directed ss) t)
      by_test false ih m = ih m

  pub etcs_directs : (etcs_row v ≡ 0 → ⊥) → code_of (field_at (etcs_row v)).sense ≡ 9
  unfolding etcs_row row_at
  etcs_directs = start_directs (packet_starts etcs_from etcs) tt

  pub ctcs_directs : (ctcs_row v ≡ 0 → ⊥) → code_of (field_at (ctcs_row v)).sense ≡ 9
  unfolding ctcs_row row_at
  ctcs_directs = start_directs (packet_starts ctcs_from ctcs) tt

-- ---- the row in which a CTCS packet is due, behind the head of ETCS-44

pub carrier : (k : ℕ) → k ≡ 87 → act k ≡ 1
unfolding row_at
carrier k e = rw e
