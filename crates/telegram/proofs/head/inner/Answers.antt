-- `telegram::head::inner` meets its contract. Assumes nothing.
use Rattle.std.specs.Prelude.{Some}
use mathlib.Core.Path.{◌≡◌, sym, ap, ◌∙◌, subst}
use Prim.Native.Nat.{ℕ, ◌+◌, ◌<◌}
use native.Mathlib.Omega.{arith}
use Rattle.bits.proofs.Fields.{taken}
use Rattle.format.specs.Kinds.{ctcs_start}
use Rattle.format.specs.Table.{field_at, code_of}
use Rattle.format.specs.declared.Start.{Start}
use Rattle.format.proofs.Heads.{ctcs_directs}
use Rattle.format.proofs.Rows.{ctcs_in}
use Rattle.states.proofs.Heading.{head_inside}
use Rattle.states.proofs.Senses.{ctcs_row_lem}
use Rattle.telegram.proofs.head.inner.Goals as goal

-- of a packet of the tables
module _ (id : ℕ) (p : Start) (e : p ≡ ctcs_start id) (n : p.row ≡ 0 → ⊥) where
  -- its Q_DIR is in the first row
  directs : code_of (field_at p.row).sense ≡ 9
  directs = let k = ctcs_row_lem id p e in rw k at (ctcs_directs id (λ z. n (sym k ∙ z)))

  -- and its L_PACKET in the second, with a row behind it
  in_table : p.row + 2 < 213
  in_table = head_inside p.row (subst (λ (k : ℕ). k < 213) (ctcs_row_lem id p e) (ctcs_in id)) directs

pub overflow_add-row : goal.overflow_add-row
overflow_add-row c = omega (arith, in_table _ c.ctcs-row.result c.ctcs-row.ensures c.if-row-eq0.false)

pub act-requires : goal.act-requires
act-requires c = in_table _ c.ctcs-row.result c.ctcs-row.ensures c.if-row-eq0.false

pub overflow_add-row-2 : goal.overflow_add-row-2
overflow_add-row-2 c = omega (arith, in_table _ c.ctcs-row.result c.ctcs-row.ensures c.if-row-eq0.false)

pub returns : goal.returns
returns c =
    let f = taken _ _ _ _ _ _ (sym c.take.ensures ∙ c.in_ok-a.was) in
    let k = ctcs_row_lem _ c.ctcs-row.result c.ctcs-row.ensures in
    record {
      bits = c.in_ok-a.a;
      field = sym c.take.ensures ∙ c.in_ok-a.was ∙ ap (λ (x : ℕ). Some (c.in_ok-a.a, record { at = x })) f.past;
      known = rw k (directs _ c.ctcs-row.result c.ctcs-row.ensures c.if-row-eq0.false);
      more = λ e. c.if-act-eq-END.false (c.act.ensures ∙ rw (← k) e);
      allowed = c.if-dir-gt2.false;
      alike = c.if-dir-st.false;
      state = rw (c.at.ensures, k, ← f.past);
    }
