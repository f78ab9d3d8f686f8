-- `telegram::head::head` meets its contract. Assumes nothing.
use Rattle.std.specs.Prelude.{Some}
use mathlib.Core.Path.{◌≡◌, sym, ap, ◌∙◌, subst}
use Prim.Native.Nat.{ℕ, ◌+◌, ◌<◌}
use native.Mathlib.Omega.{arith}
use Rattle.bits.proofs.Fields.{taken}
use Rattle.format.specs.Kinds.{etcs_start}
use Rattle.format.specs.Table.{field_at, code_of}
use Rattle.format.specs.declared.Start.{Start}
use Rattle.format.proofs.Heads.{etcs_directs}
use Rattle.format.proofs.Rows.{etcs_in}
use Rattle.states.proofs.Heading.{head_inside}
use Rattle.states.proofs.Senses.{etcs_row_lem}
use Rattle.telegram.proofs.head.head.Goals as goal

-- of a packet of the tables
module _ (id : ℕ) (p : Start) (e : p ≡ etcs_start id) (n : p.row ≡ 0 → ⊥) where
  -- its Q_DIR is in the first row
  directs : code_of (field_at p.row).sense ≡ 9
  directs = let k = etcs_row_lem id p e in rw k at (etcs_directs id (λ z. n (sym k ∙ z)))

  -- and its L_PACKET in the second, with a row behind it
  in_table : p.row + 2 < 213
  in_table = head_inside p.row (subst (λ (k : ℕ). k < 213) (etcs_row_lem id p e) (etcs_in id)) directs

pub overflow_add-row : goal.overflow_add-row
overflow_add-row c = omega (arith, in_table _ c.etcs-row.result c.etcs-row.ensures c.if-row-eq0.false)

pub act-requires : goal.act-requires
act-requires c = in_table _ c.etcs-row.result c.etcs-row.ensures c.if-row-eq0.false

pub overflow_add-row-2 : goal.overflow_add-row-2
overflow_add-row-2 c = omega (arith, in_table _ c.etcs-row.result c.etcs-row.ensures c.if-row-eq0.false)

pub returns : goal.returns
returns c =
    let f = taken _ _ _ _ _ _ (sym c.take.ensures ∙ c.in_ok-a.was) in
    let k = etcs_row_lem _ c.etcs-row.result c.etcs-row.ensures in
    record {
      bits = c.in_ok-a.a;
      field = sym c.take.ensures ∙ c.in_ok-a.was ∙ ap (λ (x : ℕ). Some (c.in_ok-a.a, record { at = x })) f.past;
      known = rw k (directs _ c.etcs-row.result c.etcs-row.ensures c.if-row-eq0.false);
      more = λ e. c.if-act-eq-END.false (c.act.ensures ∙ rw (← k) e);
      allowed = omega arith;
      alone = sym c.if-collides_in_bits.false ∙ c.collides_in_bits.ensures;
      state = rw (c.fresh.ensures, c.at.ensures, k, ← f.past);
    }
