-- Each promise of this crate is met by one answer alone, and by one final contents of what is lent. Assumes nothing.
use mathlib.Core.Path.{◌≡◌, refl, sym, ap, ◌∙◌}
use mathlib.Core.HLevel.{is_prop→PathP}
use contract.Lifetimes.{Lfts}
use denote.Triple.Clauses.{Lasts, at_exit}
use denote.Triple.Entry.{Args, Res}
use Rattle.std.specs.Coded.{Coded-set, coded_list, coded_ℕ}
use Rattle.sheet.specs.Rows.{labels, starts}
use Rattle.sheet.specs.Steps.{Tables}
use Rattle.sheet_rows.specs.declared.table.RowLabels.{RowLabels}
use mathlib.Core.List.{List}
use Prim.Native.Nat.{ℕ}
use Rattle.sheet_rows.specs.contracts as promises
use Rattle.bits.proofs.Once.{OneOutcome}
use Rattle.sheet_rows.proofs.labels
use Rattle.sheet_rows.proofs.starts
use Rattle.sheet_rows.proofs.table.RowLabels as table
use Rattle.sheet_rows.proofs.value.value_at
use Rattle.sheet_rows.proofs.value.put_value

pub labels_once : OneOutcome promises.labels.ended labels.Reads.Post
labels_once κs args r t u v p q = (p ∙ sym q, refl)

pub starts_once : OneOutcome promises.starts.ended starts.Reads.Post
starts_once κs args r t u v p q = (p ∙ sym q, refl)

pub value_at_once : OneOutcome promises.value.value_at.ended value_at.Reads.Post
value_at_once κs args r t u v p q = (p ∙ sym q, refl)

pub put_value_once : OneOutcome promises.value.put_value.ended put_value.Reads.Post
put_value_once κs args r t u v p q =
    (p.ends ∙ sym q.ends, ap (λ (out : List ℕ). (out, u.1)) (p.text ∙ sym q.text))

-- what RowLabels holds is known from its type
Tables-prop : {ls ss : List ℕ} → IsProp (Tables ls ss)
Tables-prop {ls} {ss} x y = λ i. record {
  texts = Coded-set (coded_list coded_ℕ) ls labels x.texts y.texts i;
  begin = Coded-set (coded_list coded_ℕ) ss starts x.begin y.begin i;
}

one_table : (a b : RowLabels) → a ≡ b
one_table a b =
    let same_text : a.text ≡ b.text = a.tables.texts ∙ sym b.tables.texts in
    let same_bounds : a.bounds ≡ b.bounds = a.tables.begin ∙ sym b.tables.begin in
    λ i. record {
      text = same_text i;
      bounds = same_bounds i;
      tables = is_prop→PathP (λ j. Tables (same_text j) (same_bounds j)) (λ j. Tables-prop {ls = same_text j} {ss = same_bounds j}) a.tables b.tables i;
    }

pub new_once : OneOutcome promises.table.RowLabels.new.ended table.new.Reads.Post
new_once κs args r t u v p q = (one_table r t, refl)

-- of what a label is lent as, only the text is promised, and not where it lies
pub label_once : (κs : Lfts (promises.table.RowLabels.label.ended).signature.lifetimes) (args : Args (promises.table.RowLabels.label.ended).signature κs)
    (r t : Res (promises.table.RowLabels.label.ended).signature κs) (u v : Lasts promises.table.RowLabels.label.ended κs args)
    → table.label.Reads.Post κs args r (at_exit promises.table.RowLabels.label.ended κs args u)
    → table.label.Reads.Post κs args t (at_exit promises.table.RowLabels.label.ended κs args v) → (r.now ≡ t.now) × (u ≡ v)
label_once κs args r t u v p q = (p ∙ sym q, refl)
